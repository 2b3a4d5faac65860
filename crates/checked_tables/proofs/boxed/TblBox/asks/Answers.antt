use Rattle.std.proofs.Common.{ℕ, None, ap, sym, ◌∙◌}
use Rattle.std.proofs.lemmas.Result.{err_from_is_err_and}
use Rattle.tbl_words.specs.Machine.{may_call}
use Rattle.checked_tables.specs.Asked.{is_application}
use Rattle.checked_tables.specs.Box.{Boxed}
use Rattle.checked_tables.proofs.Reasons.{handed_on, none_handed, of_no_app, of_app, of_long, of_idle, of_rest}
use Rattle.checked_tables.proofs.boxed.TblBox.asks.Goals as goal

pub returns-in_err-caller-clause-why : goal.returns-in_err-caller-clause-why
returns-in_err-caller-clause-why c =
    let p = err_from_is_err_and c.from_residual.result c.from_residual.ensures.1 in
    let core = c.args.self.now.core in
    let a = is_application core c.args.app in
    let o = may_call core.state c.args.app in
    rw (p.1, p.2) (of_no_app a c.args.within o None c.in_err-caller.field-0.0 (handed_on c.caller.result c.in_err-caller.field-0.0 _ c.caller.ensures.why c.in_err-caller.was))

pub returns-then-not-within-clause-why : goal.returns-then-not-within-clause-why
returns-then-not-within-clause-why c =
    let core = c.args.self.now.core in
    let a = is_application core c.args.app in
    let o = may_call core.state c.args.app in
    let served = of_app a (none_handed c.caller.result c.in_ok-caller.caller _ c.caller.ensures.why c.in_ok-caller.was) in
    of_long a c.args.within o None served c.if-not-within.true

pub returns-then-not-is_open-clause-why : goal.returns-then-not-is_open-clause-why
returns-then-not-is_open-clause-why c =
    let core = c.args.self.now.core in
    let a = is_application core c.args.app in
    let o = may_call core.state c.args.app in
    let served = of_app a (none_handed c.caller.result c.in_ok-caller.caller _ c.caller.ensures.why c.in_ok-caller.was) in
    let at = ap (λ (who : ℕ). may_call core.state who) (sym c.in_ok-caller.ensures.value) in
    let there = ap (λ (box : Boxed). may_call box.core.state c.in_ok-caller.caller) (sym c.self.view_is) in
    of_idle a c.args.within o None served c.if-not-within.false (at ∙ there ∙ sym c.is_open.ensures ∙ c.if-not-is_open.true)

pub returns-clause-why : goal.returns-clause-why
returns-clause-why c =
    let core = c.args.self.now.core in
    let a = is_application core c.args.app in
    let o = may_call core.state c.args.app in
    let served = of_app a (none_handed c.caller.result c.in_ok-caller.caller _ c.caller.ensures.why c.in_ok-caller.was) in
    let at = ap (λ (who : ℕ). may_call core.state who) (sym c.in_ok-caller.ensures.value) in
    let there = ap (λ (box : Boxed). may_call box.core.state c.in_ok-caller.caller) (sym c.self.view_is) in
    of_rest a c.args.within o None served c.if-not-within.false (at ∙ there ∙ sym c.is_open.ensures ∙ c.if-not-is_open.false)
