use Rattle.std.proofs.Common.{◌≡◌, vec_capacity}
use Rattle.std.specs.List.{range_with_len}
use Rattle.bucket_list.proofs.links.Links.to_themselves.Given as goal

abbrev pub invariant-loop-place : goal.invariant-loop-place
invariant-loop-place l = record { so_far : l.places.items ≡ range_with_len 0 l.place; room : vec_capacity l.places ≡ l.count }
