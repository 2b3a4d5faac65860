use Rattle.std.proofs.Common.{sym, subst, ◌∙◌}
use Rattle.std.proofs.lemmas.Result.{err_from_is_err_and}
use Rattle.fsw_base.specs.declared.config.Scope.TheVariants.{Global}
use Rattle.bus_words.specs.declared.history.Call.TheVariants.{Subscribe}
use Rattle.bus_core.specs.Core.{MayAct}
use Rattle.checked_bus.specs.Asked.{scope_of}
use Rattle.checked_bus.specs.Box.{Boxed}
use Rattle.checked_bus.proofs.Reasons.{handed_on, none_handed, first_reason, next_reason, of_unfit, of_fit, may-subscribe}
use Rattle.checked_bus.proofs.Kept.{kept-bags}
use Rattle.checked_bus.proofs.Apps.{apps-acts}
use Rattle.checked_bus.proofs.boxed.SbBox.subscribe.Goals as goal

pub invariant_of-self : goal.invariant_of-self
invariant_of-self g c =
    kept-bags c.self.inside.core c.subscribe.new.self c.self.inside.bags.items c.self.invariant (apps-acts _ _ _ _ _ c.subscribe.ensures.does) c.subscribe.ensures.bags

pub subscribe-requires-clause-may : goal.subscribe-requires-clause-may
subscribe-requires-clause-may g c =
    subst (λ (box : Boxed). MayAct box.core c.in_ok-caller.caller (Subscribe c.args.id c.args.pipe c.args.limit c.in-Some.reach)) (sym c.self.view_is)
    (may-subscribe c.args.self.now.core c.in_ok-caller.caller c.args.id c.args.pipe c.args.limit Global c.in-Some.reach c.in_ok-caller.ensures.may)

pub returns-in_err-caller-clause-unasked : goal.returns-in_err-caller-clause-unasked
returns-in_err-caller-clause-unasked g c =
    let p = err_from_is_err_and c.from_residual.result c.from_residual.ensures.1 in
    rw (p.1, p.2) (first_reason _ _ c.in_err-caller.field-0.0 (handed_on c.caller_for.result c.in_err-caller.field-0.0 _ c.caller_for.ensures.why c.in_err-caller.was))

pub returns-in_default-clause-unasked : goal.returns-in_default-clause-unasked
returns-in_default-clause-unasked g c =
    next_reason _ _ _ (none_handed c.caller_for.result c.in_ok-caller.caller _ c.caller_for.ensures.why c.in_ok-caller.was)
    (of_unfit (scope_of c.args.scope) _ (sym c.scope_of.ensures ∙ c.in_default.is))

pub returns-clause-unasked : goal.returns-clause-unasked
returns-clause-unasked g c =
    next_reason _ _ _ (none_handed c.caller_for.result c.in_ok-caller.caller _ c.caller_for.ensures.why c.in_ok-caller.was)
    (of_fit (scope_of c.args.scope) c.in-Some.reach _ (sym c.scope_of.ensures ∙ c.in-Some.is))
