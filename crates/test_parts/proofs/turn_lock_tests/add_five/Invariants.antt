use Rattle.std.proofs.Common.{◌≡◌}
use Rattle.turn_lock.specs.Seats.{IsReady, view_of}
use Rattle.test_parts.proofs.turn_lock_tests.add_five.Given as goal

abbrev pub invariant-loop-i : goal.invariant-loop-i
invariant-loop-i g l = IsReady l.seat g.B.LockName.name × ((view_of l.seat).app ≡ l.app)
