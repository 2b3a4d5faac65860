use Rattle.std.proofs.Common.{◌≡◌, ◌≤◌, take}
use Rattle.run_check.specs.Fronts.{line_ends}
use Rattle.replay_parts.proofs.slices.ends_in_piece.Given as goal

-- the bytes so far are counted
abbrev pub invariant-loop-byte : goal.invariant-loop-byte
invariant-loop-byte l = record {
  so_far : l.total ≡ line_ends (take l.byte-index l.piece);
  small : l.total ≤ l.byte-index;
}
