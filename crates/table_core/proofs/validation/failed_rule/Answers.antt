use Rattle.std.proofs.Common.{ℕ, ◌+◌, Some, None, not, List, ap, sym, ◌∙◌}
use Rattle.std.proofs.lemmas.List.{drop_all}
use Rattle.std.specs.List.{position_from}
use Rattle.tbl_rules.specs.declared.rules.Rule.{Rule}
use Rattle.tbl_rules.specs.Rules.{is_met}
use Rattle.tbl_words.specs.Machine.{with_range}
use Rattle.table_core.proofs.Validations.{fails_here, from_start}
use Rattle.table_core.proofs.validation.failed_rule.Goals as goal

pub returns-then-not-is_met : goal.returns-then-not-is_met
returns-then-not-is_met c =
    let value = with_range c.args.value.now c.args.offset c.args.bytes.now in
    ap (λ (n : ℕ). Some (n + 1)) c.loop-rule.invariant.counted
    ∙ from_start c.args.rules.now value (Some c.loop-rule.rule-index)
    (c.loop-rule.invariant.left ∙ fails_here (λ rule. not (is_met value rule)) c.args.rules.now c.loop-rule.rule-index _ c.loop-rule-test.true (ap not (sym c.is_met.ensures ∙ c.if-not-is_met.true)))

pub returns : goal.returns
returns c =
    let value = with_range c.args.value.now c.args.offset c.args.bytes.now in
    from_start c.args.rules.now value None
    (c.loop-rule.invariant.left ∙ ap (λ (rs : List Rule). position_from (λ rule. not (is_met value rule)) c.loop-rule.rule-index rs) (drop_all c.loop-rule.rule-index c.args.rules.now c.loop-rule-test.false))
