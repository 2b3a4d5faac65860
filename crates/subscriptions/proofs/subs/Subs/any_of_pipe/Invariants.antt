use Rattle.std.proofs.Common.{◌≡◌, ℕ, ◌<◌, get_or, Some, None}
use Rattle.subscriptions.specs.declared.place.Place.{Place}
use Rattle.subscriptions.proofs.subs.Subs.any_of_pipe.Given as goal

-- no slot so far holds a subscription of the pipe
abbrev pub invariant-loop-slot : goal.invariant-loop-slot
invariant-loop-slot l = (k : ℕ) (p : Place) → k < l.slot → get_or l.self-inside.slots.items k None ≡ Some p → p.pipe ≡ l.pipe → ⊥
