use Rattle.std.proofs.Common.{length, sum, ap, ◌∙◌, arith, rules, length-append}
use Rattle.std.specs.Slice.Iter.{chunks_rest}
use Rattle.std.proofs.lemmas.List.Sums.{sum_by-append}
use Rattle.run_report.proofs.sums.sum_of.Goals as goal

pub sum_of-requires : goal.sum_of-requires
sum_of-requires c =
    let steps = c.in-Some.ensures.steps in
    let size = c.loop-piece.invariant.2 in
    let long = steps.1.1 in
    omega (arith, long, size)

pub loop-piece-preserved : goal.loop-piece-preserved
loop-piece-preserved c =
    let steps = c.in-Some.ensures.steps in
    let size = c.loop-piece.invariant.2 in
    let all = ap sum steps.1.0 ∙ sum_by-append (λ x. x) c.in-Some.piece.now (chunks_rest c.next.new.self) in
    let long = ap length steps.1.0 ∙ length-append c.in-Some.piece.now (chunks_rest c.next.new.self) in
    let whole = c.loop-piece.invariant.3 in
    let bound = c.loop-piece.invariant.4 in (
      search rules,
      tt,
      steps.0 ∙ size,
      omega (arith, all, whole, c.from-total.ensures, c.sum_of.ensures.sum),
      omega (arith, long, bound, c.from-total.ensures, c.sum_of.ensures.small),
    )

pub overflow_add-total : goal.overflow_add-total
overflow_add-total c =
    let long = ap length c.in-Some.ensures.steps.1.0 ∙ length-append c.in-Some.piece.now (chunks_rest c.next.new.self) in
    let bound = c.loop-piece.invariant.4 in
    omega (arith, long, bound, c.from-total.ensures, c.sum_of.ensures.small)
