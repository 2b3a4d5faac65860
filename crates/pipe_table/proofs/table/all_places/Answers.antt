use Rattle.std.proofs.Common.{◌≡◌, ◌∙◌, ℕ, ◌+◌, ◌∷◌, ◌++◌, [], length, ap, arith}
use Rattle.std.specs.List.{range_with_len}
use Rattle.std.proofs.lemmas.List.FromFn.{length-range_with_len}
use Rattle.pipe_table.proofs.Searches.{range_more}
use Rattle.pipe_table.proofs.table.all_places.Goals as goal

pub push_reserved-requires : goal.push_reserved-requires
push_reserved-requires c =
    omega (arith, c.loop-place.free.ok.0, ap length c.loop-place.invariant.0, length-range_with_len 0 c.loop-place.place, c.loop-place.invariant.1)

pub loop-place-preserved : goal.loop-place-preserved
loop-place-preserved c = (
  c.push_reserved.ensures.items ∙ (ap (λ ns. ns ++ c.loop-place.place ∷ []) c.loop-place.invariant.0 ∙ (ap (λ n. range_with_len 0 c.loop-place.place ++ n ∷ []) (from_none c.loop-place.place) ∙ range_more 0 c.loop-place.place)),
  c.push_reserved.ensures.capacity ∙ c.loop-place.invariant.1,
)
  where
    from_none : (n : ℕ) → n ≡ 0 + n
    from_none n = omega arith
