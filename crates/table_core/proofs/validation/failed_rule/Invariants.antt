use Rattle.std.proofs.Common.{◌≡◌, not, drop}
use Rattle.std.specs.List.{position_from}
use Rattle.tbl_rules.specs.Rules.{is_met}
use Rattle.tbl_words.specs.Machine.{with_range}
use Rattle.table_core.proofs.validation.failed_rule.Given as goal

abbrev pub invariant-loop-rule : goal.invariant-loop-rule
invariant-loop-rule l = record {
  counted : l.number ≡ l.rule-index;
  left : position_from (λ rule. not (is_met (with_range l.value l.offset l.bytes) rule)) 0 l.rules ≡ position_from (λ rule. not (is_met (with_range l.value l.offset l.bytes) rule)) l.rule-index (drop l.rule-index l.rules);
}
