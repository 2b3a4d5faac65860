use Rattle.turn_lock.specs.declared.rule.Way.TheVariants.{ToSleep}
use Rattle.turn_lock.proofs.lock.TurnLock.leave_to_sleep.Given as goal

abbrev pub ghosts-give_back : goal.ghosts-give_back
ghosts-give_back g a = record { log = g.T.Historied.history a.value; way = ToSleep }
