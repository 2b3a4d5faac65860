use Rattle.std.proofs.Common.{ℕ, ap, sym, ◌∙◌}
use Rattle.std.proofs.lemmas.Result.{err_from_is_err_and}
use Rattle.bus_words.specs.Bus.{standing_of}
use Rattle.bus_words.specs.Entries.{call_of}
use Rattle.bus_words.specs.Machine.{may_call}
use Rattle.bus_core.specs.Core.{is_within}
use Rattle.checked_bus.specs.Asked.{is_application, has_number}
use Rattle.checked_bus.specs.Box.{Boxed}
use Rattle.checked_bus.proofs.Reasons.{handed_on, none_handed, of_no_app, of_app, of_long, of_idle, of_spent, of_none}
use Rattle.checked_bus.proofs.boxed.SbBox.caller_for.Goals as goal

pub returns-in_err-caller-clause-why : goal.returns-in_err-caller-clause-why
returns-in_err-caller-clause-why c =
    let p = err_from_is_err_and c.from_residual.result c.from_residual.ensures.1 in
    let core = c.args.self.now.core in
    let app = c.args.app in
    let call = call_of c.args.call.now in
    let a = is_application core app in
    let w = is_within call in
    let o = may_call (standing_of core.whole.bus app) call in
    let n = has_number core.whole.bus call in
    rw (p.1, p.2) (of_no_app a w o n c.in_err-caller.field-0.0 (handed_on c.caller.result c.in_err-caller.field-0.0 _ c.caller.ensures.why c.in_err-caller.was))

pub returns-then-not-is_within-clause-why : goal.returns-then-not-is_within-clause-why
returns-then-not-is_within-clause-why c =
    let core = c.args.self.now.core in
    let app = c.args.app in
    let call = call_of c.args.call.now in
    let a = is_application core app in
    let w = is_within call in
    let o = may_call (standing_of core.whole.bus app) call in
    let n = has_number core.whole.bus call in
    let served = of_app a (none_handed c.caller.result c.in_ok-caller.caller _ c.caller.ensures.why c.in_ok-caller.was) in
    of_long a w o n served (sym c.is_within.ensures ∙ c.if-not-is_within.true)

pub returns-then-not-is_open-clause-why : goal.returns-then-not-is_open-clause-why
returns-then-not-is_open-clause-why c =
    let core = c.args.self.now.core in
    let app = c.args.app in
    let call = call_of c.args.call.now in
    let a = is_application core app in
    let w = is_within call in
    let o = may_call (standing_of core.whole.bus app) call in
    let n = has_number core.whole.bus call in
    let served = of_app a (none_handed c.caller.result c.in_ok-caller.caller _ c.caller.ensures.why c.in_ok-caller.was) in
    let at = ap (λ (who : ℕ). may_call (standing_of core.whole.bus who) call) (sym c.in_ok-caller.ensures.value) ∙ sym (ap (λ (box : Boxed). may_call (standing_of box.core.whole.bus c.in_ok-caller.caller) call) c.self.view_is) in
    of_idle a w o n served (sym c.is_within.ensures ∙ c.if-not-is_within.false) (at ∙ sym c.is_open.ensures ∙ c.if-not-is_open.true)

pub returns-then-not-has_number-clause-why : goal.returns-then-not-has_number-clause-why
returns-then-not-has_number-clause-why c =
    let core = c.args.self.now.core in
    let app = c.args.app in
    let call = call_of c.args.call.now in
    let a = is_application core app in
    let w = is_within call in
    let o = may_call (standing_of core.whole.bus app) call in
    let n = has_number core.whole.bus call in
    let served = of_app a (none_handed c.caller.result c.in_ok-caller.caller _ c.caller.ensures.why c.in_ok-caller.was) in
    let at = ap (λ (who : ℕ). may_call (standing_of core.whole.bus who) call) (sym c.in_ok-caller.ensures.value) ∙ sym (ap (λ (box : Boxed). may_call (standing_of box.core.whole.bus c.in_ok-caller.caller) call) c.self.view_is) in
    of_spent a w o n served (sym c.is_within.ensures ∙ c.if-not-is_within.false) (at ∙ sym c.is_open.ensures ∙ c.if-not-is_open.false) (sym c.has_number.ensures ∙ c.if-not-has_number.true)

pub returns-clause-why : goal.returns-clause-why
returns-clause-why c =
    let core = c.args.self.now.core in
    let app = c.args.app in
    let call = call_of c.args.call.now in
    let a = is_application core app in
    let w = is_within call in
    let o = may_call (standing_of core.whole.bus app) call in
    let n = has_number core.whole.bus call in
    let served = of_app a (none_handed c.caller.result c.in_ok-caller.caller _ c.caller.ensures.why c.in_ok-caller.was) in
    let at = ap (λ (who : ℕ). may_call (standing_of core.whole.bus who) call) (sym c.in_ok-caller.ensures.value) ∙ sym (ap (λ (box : Boxed). may_call (standing_of box.core.whole.bus c.in_ok-caller.caller) call) c.self.view_is) in
    of_none a w o n served (sym c.is_within.ensures ∙ c.if-not-is_within.false) (at ∙ sym c.is_open.ensures ∙ c.if-not-is_open.false) (sym c.has_number.ensures ∙ c.if-not-has_number.false)
