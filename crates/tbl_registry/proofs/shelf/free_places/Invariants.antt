use Rattle.std.proofs.Common.{◌≡◌, replicate, None, vec_capacity}
use Rattle.tbl_registry.proofs.shelf.free_places.Given as goal

-- the places so far
abbrev pub invariant-loop : goal.invariant-loop
invariant-loop l = (l.at.items ≡ replicate l.counter None) × (vec_capacity l.at ≡ l.places)
