-- One block size further.
use Rattle.std.proofs.Common.{ℕ, ◌∷◌, [], ◌++◌, map, ap, sym, ◌∙◌, arith}
use Rattle.std.specs.List.{range_with_len}
use Rattle.std.proofs.lemmas.List.FromFn.{map-range_with_len_more}
use Rattle.fsw_base.specs.Grants.{out_of}
use Rattle.list_pool.proofs.grants.blocks_out.Goals as goal

pub loop-class-preserved : goal.loop-class-preserved
loop-class-preserved c =
    let f : ℕ → ℕ = λ class. out_of class c.args.out.now in
    let i = c.loop-class.class in
    c.in_ok-push.ensures.items
    ∙ ap (λ counts. counts ++ c.in_ok-count.count ∷ []) c.loop-class.invariant
    ∙ ap (λ count. map f (range_with_len 0 i) ++ count ∷ []) (c.in_ok-count.ensures ∙ c.out_of.ensures)
    ∙ sym (map-range_with_len_more f 0 i i (omega arith))
