use Rattle.std.proofs.Common.{Some, refl, ap, sym, ◌∙◌}
use Rattle.bus_words.specs.declared.history.Call.TheVariants.{ResetFilter}
use Rattle.bus_core.specs.Answers.{event_told}
use Rattle.checked_bus.specs.Asked.{unasked}
use Rattle.fsw_c.specs.BusCodes.{evs_code}
use Rattle.fsw_c.proofs.BusSteps.{called, event_told-form, always}
use Rattle.fsw_c.proofs.events.fsw_raw_reset_filter.Goals as goal

pub returns : goal.returns
returns c =
    record {
      call = called _ _ c.deref_mut.result.now _ c.args.app (ResetFilter c.args.id) (λ bus. unasked bus.core c.args.app (ResetFilter c.args.id)) (c.in-Some.ensures.taken ∙ ap Some (sym c.deref_mut.ensures.value)) c.open.ensures refl
          evs_code event_told event_told-form c.reset_filter-answer.result _ c.code_of_event_call.ensures c.reset_filter-answer.ensures.unasked c.reset_filter-answer.ensures.nothing c.reset_filter-answer.ensures.does (always c.reset_filter-answer.result c.reset_filter-answer.ensures.bags);
    }
