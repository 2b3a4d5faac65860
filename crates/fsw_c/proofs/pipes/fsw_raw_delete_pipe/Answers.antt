use Rattle.std.proofs.Common.{Some, refl, ap, sym, ◌∙◌}
use Rattle.bus_words.specs.declared.history.Call.TheVariants.{Delete}
use Rattle.bus_core.specs.Answers.{done}
use Rattle.checked_bus.specs.Asked.{unasked}
use Rattle.fsw_c.specs.BusCodes.{sb_code}
use Rattle.fsw_c.proofs.BusSteps.{called, done-form, three}
use Rattle.fsw_c.proofs.pipes.fsw_raw_delete_pipe.Goals as goal

pub returns : goal.returns
returns c =
    record {
      call = called _ _ c.deref_mut.result.now _ c.args.app (Delete c.args.pipe) (λ bus. unasked bus.core c.args.app (Delete c.args.pipe)) (c.in-Some.ensures.taken ∙ ap Some (sym c.deref_mut.ensures.value)) c.open.ensures refl
          sb_code done done-form c.delete_pipe-answer.result _ c.code_of_call.ensures c.delete_pipe-answer.ensures.unasked c.delete_pipe-answer.ensures.nothing c.delete_pipe-answer.ensures.does (three _ _ _ c.delete_pipe-answer.result c.delete_pipe-answer.ensures.others c.delete_pipe-answer.ensures.buffers c.delete_pipe-answer.ensures.loans);
    }
