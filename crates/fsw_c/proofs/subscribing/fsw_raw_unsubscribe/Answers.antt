use Rattle.std.proofs.Common.{Some, refl, ap, sym, ◌∙◌}
use Rattle.bus_words.specs.declared.history.Call.TheVariants.{Unsubscribe}
use Rattle.bus_core.specs.Answers.{done}
use Rattle.checked_bus.specs.Asked.{unasked}
use Rattle.fsw_c.specs.BusCodes.{sb_code}
use Rattle.fsw_c.proofs.BusSteps.{called, done-form, always}
use Rattle.fsw_c.proofs.subscribing.fsw_raw_unsubscribe.Goals as goal

pub returns : goal.returns
returns c =
    record {
      call = called _ _ c.deref_mut.result.now _ c.args.app (Unsubscribe c.args.id c.args.pipe) (λ bus. unasked bus.core c.args.app (Unsubscribe c.args.id c.args.pipe)) (c.in-Some.ensures.taken ∙ ap Some (sym c.deref_mut.ensures.value)) c.open.ensures refl
          sb_code done done-form c.unsubscribe-answer.result _ c.code_of_call.ensures c.unsubscribe-answer.ensures.unasked c.unsubscribe-answer.ensures.nothing c.unsubscribe-answer.ensures.does (always c.unsubscribe-answer.result c.unsubscribe-answer.ensures.bags);
    }
