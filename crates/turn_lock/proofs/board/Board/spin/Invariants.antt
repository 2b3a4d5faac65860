use Rattle.std.proofs.Common.{◌≡◌}
use Rattle.turn_lock.specs.Steps.{Stays}
use Rattle.turn_lock.proofs.board.Board.spin.Given as goal

abbrev pub invariant-loop-looks : goal.invariant-loop-looks
invariant-loop-looks g l = Stays l.initial.place l.place × (l.place.me ≡ l.initial.place.me)
