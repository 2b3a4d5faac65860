use Rattle.std.proofs.Common.{Some, refl, ap, sym, ◌∙◌}
use Rattle.bus_words.specs.declared.history.Call.TheVariants.{Pend}
use Rattle.checked_bus.specs.Asked.{unasked}
use Rattle.fsw_c.proofs.BusSteps.{called-pend, three}
use Rattle.fsw_c.proofs.messages.fsw_raw_pend.Goals as goal

pub returns-clause-call : goal.returns-clause-call
returns-clause-call c =
    called-pend _ _ c.deref_mut.result.now _ c.args.app (Pend c.args.pipe) (λ bus. unasked bus.core c.args.app (Pend c.args.pipe)) (c.in-Some.ensures.taken ∙ ap Some (sym c.deref_mut.ensures.value)) c.open.ensures refl
    c.pend-answer.result _ c.code_of_pend.ensures c.pend-answer.ensures.unasked c.pend-answer.ensures.nothing c.pend-answer.ensures.does (three _ _ _ c.pend-answer.result c.pend-answer.ensures.others c.pend-answer.ensures.buffers c.pend-answer.ensures.loans)
