use Rattle.std.proofs.Common.{◌≡◌, ◌≤◌, filter, take, length}
use Rattle.std.specs.Prelude.{nat_le}
use Rattle.fsw_c.proofs.limits.sizes_from.Given as goal

abbrev pub invariant-loop-place : goal.invariant-loop-place
invariant-loop-place l =
    (l.kept.items ≡ filter (λ size. nat_le l.least size) (take l.place l.usual))
    × (length l.kept.items ≤ l.place)
