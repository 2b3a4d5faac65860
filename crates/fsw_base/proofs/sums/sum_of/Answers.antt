use Rattle.std.proofs.Common.{◌≡◌, ◌/◌, length, sum, sum_by, ap, ◌∙◌, arith}
use Rattle.std.proofs.lemmas.List.{take_all}
use Rattle.fsw_base.proofs.SumLaws.{pieces-sum}
use Rattle.fsw_base.proofs.sums.sum_of.Goals as goal

pub returns-clause-sum : goal.returns-clause-sum
returns-clause-sum c =
    let bytes = c.args.bytes.now in
    let pieces = c.as_chunks.result.0.now in
    let through : c.loop-piece.piece-index ≡ length pieces = omega (arith, c.loop-piece.auto.piece-index-end, c.loop-piece-test.false) in
    let front = c.loop-piece.invariant.so_far
    ∙ ap (sum_by sum) (take_all c.loop-piece.piece-index pieces (omega (arith, through)))
    ∙ ap (sum_by sum) c.as_chunks.ensures.front in
    let back = c.from.ensures ∙ c.sum_of_piece-2.ensures.sum ∙ ap sum c.as_chunks.ensures.back in
    omega (arith, front, back, pieces-sum 64 (length bytes / 64) bytes)
