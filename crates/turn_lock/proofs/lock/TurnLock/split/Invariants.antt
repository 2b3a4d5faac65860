use Rattle.turn_lock.proofs.lock.TurnLock.split.Given as goal

abbrev pub ghosts-split : goal.ghosts-split
ghosts-split g a = record { app = a.app }
