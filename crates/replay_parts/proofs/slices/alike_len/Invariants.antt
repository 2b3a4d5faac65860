use Rattle.std.proofs.Common.{◌≡◌, take}
use Rattle.replay_parts.proofs.slices.alike_len.Given as goal

-- so far they are alike
abbrev pub invariant-loop-i : goal.invariant-loop-i
invariant-loop-i l = take l.i l.one ≡ take l.i l.other
