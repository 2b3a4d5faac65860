-- What was put are the digits of the bytes before those that are left.
use Rattle.std.proofs.Common.{◌≡◌, ℕ, ◌++◌, List}
use Rattle.std.specs.Slice.Iter.{chunks_rest, chunks_size}
use Rattle.text_page.specs.Pieces.{Puts}
use Rattle.text_page.specs.Texts.{hex_bytes}
use Rattle.text_page.proofs.pieces.put_hex_bytes.Given as goal

abbrev pub invariant-loop-piece : goal.invariant-loop-piece
invariant-loop-piece g l =
    (goal.iterator-loop-piece g).can_next l.piece-iterator
    × (goal.iterator-loop-piece g).is_finite l.piece-iterator
    × (chunks_size l.piece-iterator ≡ 16)
    × ((before : List ℕ) × (before ++ chunks_rest l.piece-iterator ≡ l.bytes) × Puts l.initial.sink l.sink l.initial.page l.page (hex_bytes before))
