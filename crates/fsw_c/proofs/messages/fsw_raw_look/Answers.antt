use Rattle.std.proofs.Common.{Some, refl, ap, sym, ◌∙◌}
use Rattle.fsw_c.proofs.BusSteps.{called-look}
use Rattle.fsw_c.proofs.messages.fsw_raw_look.Goals as goal

pub returns-clause-call : goal.returns-clause-call
returns-clause-call c =
    called-look _ _ c.deref_mut.result.now _ c.args.app (c.in-Some.ensures.taken ∙ ap Some (sym c.deref_mut.ensures.value)) c.open.ensures refl
    c.look-answer.result _ c.code_of_look.ensures c.look-answer.ensures.unasked c.look-answer.ensures.nothing c.look-answer.ensures.pipe c.look-answer.ensures.does c.look-answer.ensures.others c.look-answer.ensures.buffers c.look-answer.ensures.loans
