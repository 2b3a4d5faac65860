use Rattle.std.proofs.Common.{◌≡◌, drop}
use Rattle.fsw_base.specs.Blocks.{are_rising_from}
use Rattle.fsw_base.proofs.blocks.are_rising.Given as goal

-- what is left decides
abbrev pub invariant-loop-size : goal.invariant-loop-size
invariant-loop-size l = are_rising_from l.least (drop l.size-index l.sizes) ≡ are_rising_from 0 l.sizes
