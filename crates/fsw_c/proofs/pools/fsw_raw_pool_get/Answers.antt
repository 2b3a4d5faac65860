use Rattle.std.proofs.Common.{Some, refl, ap, sym, ◌∙◌}
use Rattle.bus_words.specs.declared.history.Call.TheVariants.{PoolGet}
use Rattle.bus_core.specs.Answers.{pool_told}
use Rattle.checked_bus.specs.Asked.{unasked}
use Rattle.fsw_c.proofs.BusSteps.{called-get, pool_told-form}
use Rattle.fsw_c.proofs.pools.fsw_raw_pool_get.Goals as goal

pub returns-clause-call : goal.returns-clause-call
returns-clause-call c =
    called-get _ _ c.deref_mut.result.now _ c.args.app (PoolGet c.args.pool c.args.size) (λ bus. unasked bus.core c.args.app (PoolGet c.args.pool c.args.size)) (c.in-Some.ensures.taken ∙ ap Some (sym c.deref_mut.ensures.value)) c.open.ensures refl
    pool_told pool_told-form c.args.pool c.args.size refl c.pool_get-answer.result _ c.code_of_pool_call.ensures c.pool_get-answer.ensures.unasked c.pool_get-answer.ensures.nothing c.pool_get-answer.ensures.does
    c.pool_get-answer.ensures.spent c.pool_get-answer.ensures.unchanged c.pool_get-answer.ensures.bags c.pool_get-answer.ensures.bags
