use Rattle.std.proofs.Common.{◌≡◌, ◌*◌, ◌≤◌, sum, take}
use Rattle.fsw_base.proofs.sums.sum_of_piece.Given as goal

abbrev pub invariant-loop-byte : goal.invariant-loop-byte
invariant-loop-byte l = record {
  so_far : l.total ≡ sum (take l.byte-index l.piece);
  small : l.total ≤ l.byte-index * 255;
}
