use Rattle.std.proofs.Common.{Some, None, refl, ap, sym, ◌∙◌}
use Rattle.bus_words.specs.declared.history.Call.TheVariants.{PoolFigures}
use Rattle.bus_core.specs.Answers.{figures_told}
use Rattle.fsw_c.specs.BusCodes.{es_code}
use Rattle.fsw_c.proofs.BusSteps.{answered, figures_told-form}
use Rattle.fsw_c.proofs.pools.fsw_raw_pool_stats.Goals as goal

pub returns-clause-call : goal.returns-clause-call
returns-clause-call c =
    λ app. answered _ _ c.deref.result.now c.deref.result.now app (PoolFigures c.args.pool) (λ bus. None) (c.in-Some.ensures.taken ∙ ap Some (sym c.deref.ensures)) (c.open.ensures ∙ ap Some (sym c.deref.ensures)) refl
    es_code figures_told figures_told-form c.pool_stats-answer.result _ c.code_of_pool_answer.ensures refl (c.pool_stats-answer.ensures app) refl
