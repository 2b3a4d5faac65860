use Rattle.fsw_c.proofs.subscribing.fsw_raw_unsubscribe.Given as goal

abbrev pub ghosts-unsubscribe : goal.ghosts-unsubscribe
ghosts-unsubscribe a = record { name = a.blank.name; parts = a.blank.parts }
