use Rattle.std.proofs.Common.{Some, refl, ap, sym, ◌∙◌}
use Rattle.bus_words.specs.declared.history.Call.TheVariants.{LogMode}
use Rattle.bus_words.specs.declared.calls.BusAnswer.TheVariants.{Done}
use Rattle.checked_bus.specs.Asked.{unasked_mode}
use Rattle.fsw_c.proofs.BusSteps.{called-plain, always}
use Rattle.fsw_c.proofs.events.fsw_raw_set_log_mode.Goals as goal

pub returns : goal.returns
returns c =
    record {
      call = called-plain _ _ c.deref_mut.result.now _ c.args.app (LogMode c.args.mode) (λ bus. unasked_mode bus.core c.args.app c.args.mode) (c.in-Some.ensures.taken ∙ ap Some (sym c.deref_mut.ensures.value)) c.open.ensures refl
          Done refl c.set_log_mode-answer.result _ c.code_of_plain.ensures c.set_log_mode-answer.ensures.unasked c.set_log_mode-answer.ensures.nothing c.set_log_mode-answer.ensures.does (always c.set_log_mode-answer.result c.set_log_mode-answer.ensures.bags);
    }
