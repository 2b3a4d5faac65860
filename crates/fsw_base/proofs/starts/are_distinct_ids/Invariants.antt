use Rattle.std.proofs.Common.{◌≡◌, drop}
use Rattle.fsw_base.specs.Starts.{are_distinct_ids}
use Rattle.fsw_base.proofs.starts.are_distinct_ids.Given as goal

-- what is left decides
abbrev pub invariant-loop-i : goal.invariant-loop-i
invariant-loop-i l = are_distinct_ids (drop l.i l.pairs) ≡ are_distinct_ids l.pairs
