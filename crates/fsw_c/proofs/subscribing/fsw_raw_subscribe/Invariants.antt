use Rattle.fsw_c.proofs.subscribing.fsw_raw_subscribe.Given as goal

abbrev pub ghosts-subscribe : goal.ghosts-subscribe
ghosts-subscribe a = record { name = a.blank.name; parts = a.blank.parts }
