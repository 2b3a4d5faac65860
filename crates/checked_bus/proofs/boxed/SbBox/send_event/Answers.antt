use Rattle.std.proofs.Common.{sym, subst, ◌∙◌}
use Rattle.std.proofs.lemmas.Result.{err_from_is_err_and}
use Rattle.fsw_base.specs.declared.events.EventKind.TheVariants.{Debug}
use Rattle.bus_words.specs.declared.history.Call.TheVariants.{SendEvent}
use Rattle.bus_core.specs.Core.{MayAct}
use Rattle.checked_bus.specs.Asked.{kind_of}
use Rattle.checked_bus.specs.Box.{Boxed}
use Rattle.checked_bus.proofs.Reasons.{handed_on, none_handed, first_reason, next_reason, of_unfit, of_fit, may-event}
use Rattle.checked_bus.proofs.Kept.{kept-bags}
use Rattle.checked_bus.proofs.Apps.{apps-acts}
use Rattle.checked_bus.proofs.boxed.SbBox.send_event.Goals as goal

pub invariant_of-self : goal.invariant_of-self
invariant_of-self c =
    kept-bags c.self.inside.core c.send_event.new.self c.self.inside.bags.items c.self.invariant (apps-acts _ _ _ _ _ c.send_event.ensures.does) c.send_event.ensures.bags

pub send_event-requires : goal.send_event-requires
send_event-requires c = record {
  may = subst (λ (box : Boxed). MayAct box.core c.in_ok-caller.caller (SendEvent c.args.id c.in-Some.known c.args.text.now)) (sym c.self.view_is)
      (may-event c.args.self.now.core c.in_ok-caller.caller c.args.id Debug c.in-Some.known c.args.text.now c.in_ok-caller.ensures.may);
}

pub returns-in_err-caller-clause-unasked : goal.returns-in_err-caller-clause-unasked
returns-in_err-caller-clause-unasked c =
    let p = err_from_is_err_and c.from_residual.result c.from_residual.ensures.1 in
    rw (p.1, p.2) (first_reason _ _ c.in_err-caller.field-0.0 (handed_on c.caller_for.result c.in_err-caller.field-0.0 _ c.caller_for.ensures.why c.in_err-caller.was))

pub returns-in_default-clause-unasked : goal.returns-in_default-clause-unasked
returns-in_default-clause-unasked c =
    next_reason _ _ _ (none_handed c.caller_for.result c.in_ok-caller.caller _ c.caller_for.ensures.why c.in_ok-caller.was)
    (of_unfit (kind_of c.args.kind) _ (sym c.kind_of.ensures ∙ c.in_default.is))

pub returns-clause-unasked : goal.returns-clause-unasked
returns-clause-unasked c =
    next_reason _ _ _ (none_handed c.caller_for.result c.in_ok-caller.caller _ c.caller_for.ensures.why c.in_ok-caller.was)
    (of_fit (kind_of c.args.kind) c.in-Some.known _ (sym c.kind_of.ensures ∙ c.in-Some.is))
