use Rattle.fsw_c.proofs.messages.fsw_raw_receive.Given as goal

abbrev pub ghosts-receive : goal.ghosts-receive
ghosts-receive a = record { name = a.blank.name; parts = a.blank.parts }
