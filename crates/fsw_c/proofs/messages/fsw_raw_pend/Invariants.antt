use Rattle.fsw_c.proofs.messages.fsw_raw_pend.Given as goal

abbrev pub ghosts-pend : goal.ghosts-pend
ghosts-pend a = record { name = a.blank.name; parts = a.blank.parts }
