use Rattle.std.proofs.Common.{None, not, Bool, ap, sym, ◌∙◌}
use Rattle.std.proofs.lemmas.Result.{err_from_is_err_and}
use Rattle.tbl_words.specs.Machine.{may_call}
use Rattle.checked_tables.specs.declared.refusal.Refusal.TheVariants.{NoNumbers}
use Rattle.table_core.specs.Core.{has_handle_number}
use Rattle.checked_tables.specs.Box.{Boxed}
use Rattle.checked_tables.specs.Asked.{is_application, reason_if}
use Rattle.checked_tables.proofs.Reasons.{handed_on, none_handed, before_more, then_more}
use Rattle.checked_tables.proofs.boxed.TblBox.asks_handle.Goals as goal

pub returns-in_err-caller-clause-why : goal.returns-in_err-caller-clause-why
returns-in_err-caller-clause-why c =
    let p = err_from_is_err_and c.from_residual.result c.from_residual.ensures.1 in
    let core = c.args.self.now.core in
    let a = is_application core c.args.app in
    let o = may_call core.state c.args.app in
    rw (p.1, p.2) (before_more a c.args.within o c.in_err-caller.field-0.0 _ (handed_on c.asks.result c.in_err-caller.field-0.0 _ c.asks.ensures.why c.in_err-caller.was))

pub returns-then-not-has_handle_number-clause-why : goal.returns-then-not-has_handle_number-clause-why
returns-then-not-has_handle_number-clause-why c =
    let core = c.args.self.now.core in
    let a = is_application core c.args.app in
    let o = may_call core.state c.args.app in
    let more = λ (b : Bool). reason_if (not b) NoNumbers None in
    let there = ap (λ (box : Boxed). has_handle_number box.core.state) (sym c.self.view_is) in
    sym (ap more (there ∙ sym c.has_handle_number.ensures ∙ c.if-not-has_handle_number.true))
    ∙ then_more a c.args.within o _ (none_handed c.asks.result c.in_ok-caller.caller _ c.asks.ensures.why c.in_ok-caller.was)

pub returns-clause-why : goal.returns-clause-why
returns-clause-why c =
    let core = c.args.self.now.core in
    let a = is_application core c.args.app in
    let o = may_call core.state c.args.app in
    let more = λ (b : Bool). reason_if (not b) NoNumbers None in
    let there = ap (λ (box : Boxed). has_handle_number box.core.state) (sym c.self.view_is) in
    sym (ap more (there ∙ sym c.has_handle_number.ensures ∙ c.if-not-has_handle_number.false))
    ∙ then_more a c.args.within o _ (none_handed c.asks.result c.in_ok-caller.caller _ c.asks.ensures.why c.in_ok-caller.was)
