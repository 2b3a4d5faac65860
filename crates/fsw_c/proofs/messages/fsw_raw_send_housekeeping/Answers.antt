use Rattle.std.proofs.Common.{Some, refl, ap, sym, ◌∙◌}
use Rattle.bus_words.specs.declared.history.Call.TheVariants.{Housekeeping}
use Rattle.bus_core.specs.Answers.{sent}
use Rattle.checked_bus.specs.Asked.{unasked}
use Rattle.fsw_c.proofs.BusSteps.{called-send, sent-form, always}
use Rattle.fsw_c.proofs.messages.fsw_raw_send_housekeeping.Goals as goal

pub returns-clause-call : goal.returns-clause-call
returns-clause-call c =
    called-send _ _ c.deref_mut.result.now _ c.args.app (Housekeeping) (λ bus. unasked bus.core c.args.app (Housekeeping)) (c.in-Some.ensures.taken ∙ ap Some (sym c.deref_mut.ensures.value)) c.open.ensures refl
    sent sent-form refl c.send_housekeeping-answer.result _ c.code_of_call.ensures c.send_housekeeping-answer.ensures.unasked c.send_housekeeping-answer.ensures.nothing c.send_housekeeping-answer.ensures.does c.send_housekeeping-answer.ensures.spent c.send_housekeeping-answer.ensures.refused (always c.send_housekeeping-answer.result c.send_housekeeping-answer.ensures.bags)
