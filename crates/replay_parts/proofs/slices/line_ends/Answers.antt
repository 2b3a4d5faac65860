use Rattle.std.proofs.Common.{◌≡◌, ◌/◌, length, sum_by, ap, ◌∙◌, arith}
use Rattle.std.proofs.lemmas.List.{take_all}
use Rattle.run_check.specs.Fronts.{line_ends}
use Rattle.replay_parts.proofs.LineEnds.{pieces_ends}
use Rattle.replay_parts.proofs.slices.line_ends.Goals as goal

pub returns-clause-count : goal.returns-clause-count
returns-clause-count c =
    let text = c.args.text.now in
    let pieces = c.as_chunks.result.0.now in
    let through : c.loop-piece.piece-index ≡ length pieces = omega (arith, c.loop-piece.auto.piece-index-end, c.loop-piece-test.false) in
    let front = c.loop-piece.invariant.so_far
    ∙ ap (sum_by line_ends) (take_all c.loop-piece.piece-index pieces (omega (arith, through)))
    ∙ ap (sum_by line_ends) c.as_chunks.ensures.front in
    let back = c.from.ensures ∙ c.ends_in_piece-2.ensures.count ∙ ap line_ends c.as_chunks.ensures.back in
    omega (arith, front, back, pieces_ends 64 (length text / 64) text)
