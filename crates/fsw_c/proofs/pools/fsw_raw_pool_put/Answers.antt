use Rattle.std.proofs.Common.{Some, refl, ap, sym, ◌∙◌}
use Rattle.bus_words.specs.declared.history.Call.TheVariants.{PoolPut}
use Rattle.bus_core.specs.Answers.{grant_back}
use Rattle.checked_bus.specs.Asked.{unasked}
use Rattle.fsw_c.specs.BusCodes.{es_code}
use Rattle.fsw_c.proofs.BusSteps.{called, grant_back-form, always}
use Rattle.fsw_c.proofs.pools.fsw_raw_pool_put.Goals as goal

pub returns : goal.returns
returns c =
    record {
      call = called _ _ c.deref_mut.result.now _ c.args.app (PoolPut c.args.pool c.args.grant) (λ bus. unasked bus.core c.args.app (PoolPut c.args.pool c.args.grant)) (c.in-Some.ensures.taken ∙ ap Some (sym c.deref_mut.ensures.value)) c.open.ensures refl
          es_code grant_back grant_back-form c.pool_put-answer.result _ c.code_of_pool_call.ensures c.pool_put-answer.ensures.unasked c.pool_put-answer.ensures.nothing c.pool_put-answer.ensures.does (always c.pool_put-answer.result c.pool_put-answer.ensures.bags);
    }
