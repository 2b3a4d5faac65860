use Rattle.turn_lock.specs.Seats.{IsReady}
use Rattle.test_parts.proofs.turn_lock_tests.sleeping.take_turns.Given as goal

abbrev pub invariant-loop-i : goal.invariant-loop-i
invariant-loop-i g l = IsReady l.seat g.B.LockName.name
