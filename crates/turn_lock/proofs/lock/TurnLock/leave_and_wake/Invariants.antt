use Rattle.turn_lock.specs.declared.rule.Way.TheVariants.{ToRing}
use Rattle.turn_lock.proofs.lock.TurnLock.leave_and_wake.Given as goal

abbrev pub ghosts-give_back : goal.ghosts-give_back
ghosts-give_back g a = record { log = g.T.Historied.history a.value; way = ToRing }
