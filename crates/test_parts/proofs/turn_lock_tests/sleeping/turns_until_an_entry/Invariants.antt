use Rattle.std.proofs.Common.{◌≡◌, false}
use Rattle.turn_lock.specs.Seats.{IsReady}
use Rattle.test_parts.proofs.turn_lock_tests.sleeping.turns_until_an_entry.Given as goal

abbrev pub invariant-loop : goal.invariant-loop
invariant-loop g l = IsReady l.seat g.B.LockName.name × (l.seat.kept_awake ≡ false)
