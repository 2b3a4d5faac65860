use Rattle.std.proofs.Common.{◌≡◌, length, take}
use Rattle.fsw_c.specs.Rules.{rules_in}
use Rattle.fsw_c.proofs.registering.rules_of.Given as goal

-- the rules so far
abbrev pub invariant-loop-rule : goal.invariant-loop-rule
invariant-loop-rule l = (l.kept ≡ rules_in (take l.rule-index l.rules)) × (length l.kept ≡ l.rule-index)
