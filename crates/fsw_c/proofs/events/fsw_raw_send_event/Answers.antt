use Rattle.std.proofs.Common.{Some, refl, ap, sym, ◌∙◌}
use Rattle.fsw_base.specs.declared.events.EventKind.TheVariants.{Debug}
use Rattle.bus_words.specs.declared.history.Call.TheVariants.{SendEvent}
use Rattle.bus_core.specs.Answers.{event_told}
use Rattle.checked_bus.specs.declared.refusal.Refusal.TheVariants.{NoKind}
use Rattle.checked_bus.specs.Asked.{unasked, kind_of}
use Rattle.fsw_c.specs.BusCodes.{evs_code}
use Rattle.fsw_c.proofs.BusSteps.{called-with, event_told-form, always}
use Rattle.fsw_c.proofs.Values.{evs-some, kept-found}
use Rattle.fsw_c.proofs.events.fsw_raw_send_event.Goals as goal

pub returns-clause-call : goal.returns-clause-call
returns-clause-call c =
    let a = c.args in
    called-with _ _ c.deref_mut.result.now _ a.app (λ known. SendEvent a.id known a.text.now) (kind_of a.kind) Debug NoKind (λ bus. unasked bus.core a.app (SendEvent a.id Debug a.text.now)) (c.in-Some.ensures.taken ∙ ap Some (sym c.deref_mut.ensures.value)) c.open.ensures refl
    evs_code event_told event_told-form c.send_event-answer.result _ c.code_of_event_call.ensures c.send_event-answer.ensures.unasked c.send_event-answer.ensures.nothing c.send_event-answer.ensures.does (always c.send_event-answer.result c.send_event-answer.ensures.bags)

pub returns-clause-kept : goal.returns-clause-kept
returns-clause-kept c = kept-found evs_code evs-some _ c.send_event-answer.result _ c.code_of_event_call.ensures c.put_passed.ensures.kept c.put_passed.ensures.unasked
