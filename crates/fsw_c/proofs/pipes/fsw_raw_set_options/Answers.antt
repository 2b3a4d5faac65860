use Rattle.std.proofs.Common.{Some, refl, ap, sym, ◌∙◌}
use Rattle.bus_words.specs.declared.history.Call.TheVariants.{SetOpts}
use Rattle.bus_core.specs.Answers.{done}
use Rattle.checked_bus.specs.Asked.{unasked}
use Rattle.fsw_c.specs.BusCodes.{sb_code}
use Rattle.fsw_c.proofs.BusSteps.{called, done-form, always}
use Rattle.fsw_c.proofs.pipes.fsw_raw_set_options.Goals as goal

pub returns : goal.returns
returns c =
    record {
      call = called _ _ c.deref_mut.result.now _ c.args.app (SetOpts c.args.pipe c.args.bits) (λ bus. unasked bus.core c.args.app (SetOpts c.args.pipe c.args.bits)) (c.in-Some.ensures.taken ∙ ap Some (sym c.deref_mut.ensures.value)) c.open.ensures refl
          sb_code done done-form c.set_opts-answer.result _ c.code_of_call.ensures c.set_opts-answer.ensures.unasked c.set_opts-answer.ensures.nothing c.set_opts-answer.ensures.does (always c.set_opts-answer.result c.set_opts-answer.ensures.bags);
    }
