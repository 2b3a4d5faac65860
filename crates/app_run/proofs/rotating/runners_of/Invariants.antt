use Rattle.std.proofs.Common.{◌≡◌, length, map, vec_len, vec_capacity}
use Rattle.std.specs.List.{range_with_len}
use Rattle.app_run.specs.Runners.{beginning}
use Rattle.app_run.proofs.rotating.runners_of.Given as goal

-- the applications so far, and the room for those to come
abbrev pub invariant-loop-i : goal.invariant-loop-i
invariant-loop-i l =
    (l.runners.items ≡ map (beginning l.script) (range_with_len 1 l.i))
    × (vec_len l.runners ≡ l.i)
    × (vec_capacity l.runners ≡ length l.script.apps)
