use Rattle.std.proofs.Common.{Some, refl, ap, sym, ◌∙◌}
use Rattle.bus_words.specs.declared.history.Call.TheVariants.{Transmit}
use Rattle.bus_core.specs.Answers.{sent}
use Rattle.checked_bus.specs.Asked.{unasked}
use Rattle.fsw_c.proofs.BusSteps.{called-send, sent-form, always}
use Rattle.fsw_c.proofs.messages.fsw_raw_transmit.Goals as goal

pub returns-clause-call : goal.returns-clause-call
returns-clause-call c =
    called-send _ _ c.deref_mut.result.now _ c.args.app (Transmit c.args.bytes.now c.args.counts) (λ bus. unasked bus.core c.args.app (Transmit c.args.bytes.now c.args.counts)) (c.in-Some.ensures.taken ∙ ap Some (sym c.deref_mut.ensures.value)) c.open.ensures refl
    sent sent-form refl c.transmit-answer.result _ c.code_of_call.ensures c.transmit-answer.ensures.unasked c.transmit-answer.ensures.nothing c.transmit-answer.ensures.does c.transmit-answer.ensures.spent c.transmit-answer.ensures.refused (always c.transmit-answer.result c.transmit-answer.ensures.bags)
