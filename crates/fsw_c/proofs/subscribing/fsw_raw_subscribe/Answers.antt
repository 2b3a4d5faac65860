use Rattle.std.proofs.Common.{Some, refl, ap, sym, ◌∙◌}
use Rattle.fsw_base.specs.declared.config.Scope.TheVariants.{Global}
use Rattle.bus_words.specs.declared.history.Call.TheVariants.{Subscribe}
use Rattle.bus_core.specs.Answers.{done}
use Rattle.checked_bus.specs.declared.refusal.Refusal.TheVariants.{NoScope}
use Rattle.checked_bus.specs.Asked.{unasked, scope_of}
use Rattle.fsw_c.specs.BusCodes.{sb_code}
use Rattle.fsw_c.proofs.BusSteps.{called-with, done-form, always}
use Rattle.fsw_c.proofs.subscribing.fsw_raw_subscribe.Goals as goal

pub returns : goal.returns
returns c =
    let a = c.args in
    record {
      call = called-with _ _ c.deref_mut.result.now _ a.app (λ reach. Subscribe a.id a.pipe a.limit reach) (scope_of a.scope) Global NoScope (λ bus. unasked bus.core a.app (Subscribe a.id a.pipe a.limit Global)) (c.in-Some.ensures.taken ∙ ap Some (sym c.deref_mut.ensures.value)) c.open.ensures refl
          sb_code done done-form c.subscribe-answer.result _ c.code_of_call.ensures c.subscribe-answer.ensures.unasked c.subscribe-answer.ensures.nothing c.subscribe-answer.ensures.does (always c.subscribe-answer.result c.subscribe-answer.ensures.bags);
    }
