use Rattle.std.proofs.Common.{◌≡◌, take, length, map, vec_len, vec_capacity}
use Rattle.app_run.proofs.OpenLaws.{first_held}
use Rattle.app_run.proofs.rotating.held_of.Given as goal

-- the bags so far, and the room for those to come
abbrev pub invariant-loop-app : goal.invariant-loop-app
invariant-loop-app l =
    (l.held.items ≡ map (λ a. first_held l.script) (take l._app l.script.apps))
    × (vec_len l.held ≡ l._app)
    × (vec_capacity l.held ≡ length l.script.apps)
