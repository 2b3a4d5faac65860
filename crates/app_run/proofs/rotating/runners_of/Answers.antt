use Rattle.std.proofs.Common.{◌+◌, ◌∷◌, [], ◌++◌, map, ap, sym, ◌∙◌, arith}
use Rattle.std.specs.List.{range_with_len}
use Rattle.std.proofs.lemmas.List.FromFn.{map-range_with_len_more}
use Rattle.app_run.specs.Runners.{Progress, beginning}
use Rattle.app_run.proofs.rotating.runners_of.Goals as goal

pub loop-i-preserved : goal.loop-i-preserved
loop-i-preserved c =
    let f = beginning c.args.script.now in (
      c.push_reserved.ensures.items
          ∙ ap (λ l. l ++ c.in_ok-new.field-0 ∷ []) c.loop-i.invariant.0
          ∙ ap (λ (p : Progress). map f (range_with_len 1 c.loop-i.i) ++ p ∷ []) (c.in_ok-new.ensures.beginning ∙ ap f c.app_at.ensures)
          ∙ sym (map-range_with_len_more f 1 c.loop-i.i (c.loop-i.i + 1) (omega arith)),
      omega (arith, c.push_reserved.ensures.len, c.loop-i.invariant.1),
      c.push_reserved.ensures.capacity ∙ c.loop-i.invariant.2,
    )
