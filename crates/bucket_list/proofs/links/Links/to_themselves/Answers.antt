use Rattle.std.proofs.Common.{◌≡◌, ◌∙◌, ℕ, ◌+◌, ◌∷◌, ◌++◌, [], length, ap, arith}
use Rattle.std.specs.List.{range_with_len}
use Rattle.std.proofs.lemmas.List.FromFn.{length-range_with_len}
use Rattle.bucket_list.proofs.Ranges.{range_more}
use Rattle.bucket_list.proofs.links.Links.to_themselves.Goals as goal

pub push_reserved-requires : goal.push_reserved-requires
push_reserved-requires c =
    omega (arith, c.loop-place.places.ok, ap length c.loop-place.invariant.so_far, length-range_with_len 0 c.loop-place.place, c.loop-place.invariant.room)

pub loop-place-preserved : goal.loop-place-preserved
loop-place-preserved c = record {
  so_far = c.push_reserved.ensures.items ∙ (ap (λ ns. ns ++ c.loop-place.place ∷ []) c.loop-place.invariant.so_far ∙ (ap (λ n. range_with_len 0 c.loop-place.place ++ n ∷ []) (from_none c.loop-place.place) ∙ range_more 0 c.loop-place.place));
  room = c.push_reserved.ensures.capacity ∙ c.loop-place.invariant.room;
}
  where
    from_none : (n : ℕ) → n ≡ 0 + n
    from_none n = omega arith
