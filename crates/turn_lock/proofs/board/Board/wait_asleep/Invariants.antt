use Rattle.std.proofs.Common.{◌≡◌}
use Rattle.turn_lock.specs.Steps.{Stays}
use Rattle.turn_lock.proofs.board.Board.wait_asleep.Given as goal

abbrev pub invariant-loop : goal.invariant-loop
invariant-loop g l = Stays l.initial.place l.place × (l.place.me ≡ l.initial.place.me)
