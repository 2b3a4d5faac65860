use Rattle.std.proofs.Common.{◌≡◌, length, take}
use Rattle.fsw_c.specs.Args.{pairs_in}
use Rattle.fsw_c.proofs.events.pairs_of.Given as goal

-- a pair for each filter so far
abbrev pub invariant-loop-i : goal.invariant-loop-i
invariant-loop-i l = (l.pairs.items ≡ pairs_in (take l.i l.filters)) × (length l.pairs.items ≡ l.i)
