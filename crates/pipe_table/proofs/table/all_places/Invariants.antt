use Rattle.std.proofs.Common.{◌≡◌, vec_capacity}
use Rattle.std.specs.List.{range_with_len}
use Rattle.pipe_table.proofs.table.all_places.Given as goal

-- the places so far
abbrev pub invariant-loop-place : goal.invariant-loop-place
invariant-loop-place l = (l.free.items ≡ range_with_len 0 l.place) × (vec_capacity l.free ≡ l.pipes)
