use Rattle.std.proofs.Common.{◌≡◌, ◌+◌, ◌*◌, ◌≤◌, length, sum}
use Rattle.std.specs.Slice.Iter.{chunks_rest, chunks_size}
use Rattle.run_report.proofs.sums.sum_of.Given as goal

abbrev pub invariant-loop-piece : goal.invariant-loop-piece
invariant-loop-piece l =
    goal.iterator-loop-piece.can_next l.piece-iterator
    × goal.iterator-loop-piece.is_finite l.piece-iterator
    × (chunks_size l.piece-iterator ≡ 16000000)
    × (l.total + sum (chunks_rest l.piece-iterator) ≡ sum l.fn.bytes)
    × (l.total + length (chunks_rest l.piece-iterator) * 255 ≤ length l.fn.bytes * 255)
