use Rattle.std.proofs.Common.{Some, refl, ap, sym, ◌∙◌}
use Rattle.bus_words.specs.declared.history.Call.TheVariants.{Create}
use Rattle.bus_core.specs.Answers.{numbered}
use Rattle.checked_bus.specs.Asked.{unasked}
use Rattle.fsw_c.specs.BusCodes.{sb_code}
use Rattle.fsw_c.proofs.BusSteps.{called, numbered-form, always}
use Rattle.fsw_c.proofs.pipes.fsw_raw_create_pipe.Goals as goal

pub returns-clause-call : goal.returns-clause-call
returns-clause-call c =
    called _ _ c.deref_mut.result.now _ c.args.app (Create c.args.depth c.args.name.now) (λ bus. unasked bus.core c.args.app (Create c.args.depth c.args.name.now)) (c.in-Some.ensures.taken ∙ ap Some (sym c.deref_mut.ensures.value)) c.open.ensures refl
    sb_code numbered numbered-form c.create_pipe-answer.result _ c.code_of_call.ensures c.create_pipe-answer.ensures.unasked c.create_pipe-answer.ensures.nothing c.create_pipe-answer.ensures.does (always c.create_pipe-answer.result c.create_pipe-answer.ensures.bags)
