use Rattle.std.proofs.Common.{◌≡◌, drop}
use Rattle.std.specs.List.{list_all}
use Rattle.fsw_base.specs.Starts.{is_start}
use Rattle.fsw_base.proofs.starts.are_starts.Given as goal

-- what is left decides
abbrev pub invariant-loop-id : goal.invariant-loop-id
invariant-loop-id l = list_all is_start (drop l.id-index l.pairs) ≡ list_all is_start l.pairs
