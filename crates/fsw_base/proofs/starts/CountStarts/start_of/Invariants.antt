use Rattle.std.proofs.Common.{◌≡◌, drop}
use Rattle.fsw_base.specs.Starts.{start_of}
use Rattle.fsw_base.proofs.starts.CountStarts.start_of.Given as goal

-- what is left decides
abbrev pub invariant-loop-pair : goal.invariant-loop-pair
invariant-loop-pair l = start_of (drop l.pair-index l.pair-items) l.id ≡ start_of l.pair-items l.id
