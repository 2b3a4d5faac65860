use Rattle.std.proofs.Common.{Some, refl, ap, sym, ◌∙◌}
use Rattle.bus_words.specs.declared.history.Call.TheVariants.{ClearLog}
use Rattle.bus_words.specs.declared.calls.BusAnswer.TheVariants.{Done}
use Rattle.checked_bus.specs.Asked.{unasked}
use Rattle.fsw_c.proofs.BusSteps.{called-plain, always}
use Rattle.fsw_c.proofs.events.fsw_raw_clear_log.Goals as goal

pub returns : goal.returns
returns c =
    record {
      call = called-plain _ _ c.deref_mut.result.now _ c.args.app (ClearLog) (λ bus. unasked bus.core c.args.app (ClearLog)) (c.in-Some.ensures.taken ∙ ap Some (sym c.deref_mut.ensures.value)) c.open.ensures refl
          Done refl c.clear_log-answer.result _ c.code_of_plain.ensures c.clear_log-answer.ensures.unasked c.clear_log-answer.ensures.nothing c.clear_log-answer.ensures.does (always c.clear_log-answer.result c.clear_log-answer.ensures.bags);
    }
