use Rattle.fsw_c.proofs.messages.fsw_raw_send_housekeeping.Given as goal

abbrev pub ghosts-send_housekeeping : goal.ghosts-send_housekeeping
ghosts-send_housekeeping a = record { name = a.blank.name; parts = a.blank.parts }
