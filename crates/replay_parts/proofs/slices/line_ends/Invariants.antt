use Rattle.std.proofs.Common.{◌≡◌, ◌*◌, ◌≤◌, sum_by, take}
use Rattle.run_check.specs.Fronts.{line_ends}
use Rattle.replay_parts.proofs.slices.line_ends.Given as goal

-- the pieces so far are counted
abbrev pub invariant-loop-piece : goal.invariant-loop-piece
invariant-loop-piece l = record {
  so_far : l.total ≡ sum_by line_ends (take l.piece-index l.pieces);
  small : l.total ≤ l.piece-index * 64;
}
