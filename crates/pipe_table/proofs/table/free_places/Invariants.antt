use Rattle.std.proofs.Common.{◌≡◌, None, replicate, vec_capacity}
use Rattle.pipe_table.proofs.table.free_places.Given as goal

-- as many free places as were counted
abbrev pub invariant-loop : goal.invariant-loop
invariant-loop l = (l.places.items ≡ replicate l.counter (record { pipe = None; room = l.depth })) × (vec_capacity l.places ≡ l.pipes)
