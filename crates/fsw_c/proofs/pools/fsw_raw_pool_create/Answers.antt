use Rattle.std.proofs.Common.{Some, refl, ap, sym, ◌∙◌}
use Rattle.bus_words.specs.declared.history.Call.TheVariants.{PoolCreate}
use Rattle.bus_core.specs.Answers.{pool_told}
use Rattle.checked_bus.specs.Asked.{unasked}
use Rattle.fsw_c.specs.BusCodes.{es_code}
use Rattle.fsw_c.proofs.BusSteps.{called, pool_told-form, always}
use Rattle.fsw_c.proofs.pools.fsw_raw_pool_create.Goals as goal

pub returns-clause-call : goal.returns-clause-call
returns-clause-call c =
    called _ _ c.deref_mut.result.now _ c.args.app (PoolCreate c.args.bytes) (λ bus. unasked bus.core c.args.app (PoolCreate c.args.bytes)) (c.in-Some.ensures.taken ∙ ap Some (sym c.deref_mut.ensures.value)) c.open.ensures refl
    es_code pool_told pool_told-form c.pool_create-answer.result _ c.code_of_pool_call.ensures c.pool_create-answer.ensures.unasked c.pool_create-answer.ensures.nothing c.pool_create-answer.ensures.does (always c.pool_create-answer.result c.pool_create-answer.ensures.bags)
