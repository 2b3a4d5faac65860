use Rattle.std.proofs.Common.{◌≡◌, not, drop}
use Rattle.std.specs.List.{position_from}
use Rattle.tbl_rules.specs.Rules.{is_met}
use Rattle.list_tables.proofs.values.failed_rule.Given as goal

-- the rules seen are met, so those left decide
abbrev pub invariant-loop-rule : goal.invariant-loop-rule
invariant-loop-rule l = record {
  counted : l.number ≡ l.rule-index;
  left : position_from (λ rule. not (is_met l.value rule)) 0 l.rules ≡ position_from (λ rule. not (is_met l.value rule)) l.rule-index (drop l.rule-index l.rules);
}
