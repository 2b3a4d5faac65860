use Rattle.std.proofs.Common.{◌≡◌, ◌*◌, ◌≤◌, sum, sum_by, take}
use Rattle.fsw_base.proofs.sums.sum_of.Given as goal

-- the pieces so far are added up
abbrev pub invariant-loop-piece : goal.invariant-loop-piece
invariant-loop-piece l = record {
  so_far : l.total ≡ sum_by sum (take l.piece-index l.pieces);
  small : l.total ≤ l.piece-index * 16320;
}
