use Rattle.std.proofs.Common.{Some, refl, ap, sym, ◌∙◌}
use Rattle.bus_words.specs.declared.history.Call.TheVariants.{Receive}
use Rattle.checked_bus.specs.Answers.{received}
use Rattle.checked_bus.specs.Asked.{unasked}
use Rattle.fsw_c.specs.BusCodes.{sb_code}
use Rattle.fsw_c.proofs.BusSteps.{called, received-form, three}
use Rattle.fsw_c.proofs.messages.fsw_raw_receive.Goals as goal

pub returns-clause-call : goal.returns-clause-call
returns-clause-call c =
    called _ _ c.deref_mut.result.now _ c.args.app (Receive c.args.pipe) (λ bus. unasked bus.core c.args.app (Receive c.args.pipe)) (c.in-Some.ensures.taken ∙ ap Some (sym c.deref_mut.ensures.value)) c.open.ensures refl
    sb_code received received-form c.receive-answer.result _ c.code_of_call.ensures c.receive-answer.ensures.unasked c.receive-answer.ensures.nothing c.receive-answer.ensures.does (three _ _ _ c.receive-answer.result c.receive-answer.ensures.others c.receive-answer.ensures.buffers c.receive-answer.ensures.loans)
