use Rattle.fsw_c.proofs.messages.fsw_raw_transmit.Given as goal

abbrev pub ghosts-transmit : goal.ghosts-transmit
ghosts-transmit a = record { name = a.blank.name; parts = a.blank.parts }
