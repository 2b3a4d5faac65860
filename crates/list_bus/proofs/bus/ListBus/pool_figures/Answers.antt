use Rattle.std.proofs.Common.{Ok, sym, ap, ◌∙◌}
use Rattle.bus_words.specs.declared.history.Call.TheVariants.{PoolFigures}
use Rattle.fsw_base.specs.Grants.{answer_in, pool_in, figures_of}
use Rattle.list_bus.specs.Decided.{figured}
use Rattle.list_bus.specs.Played.{Played}
use Rattle.list_bus.proofs.DecidedCalls.{decides_still}
use Rattle.list_bus.proofs.PoolCalls.{figures_made}
use Rattle.list_bus.proofs.bus.ListBus.pool_figures.Goals as goal

pub returns : goal.returns
returns c =
    let now = c.args.self.now in
    let is = c.figures-made.ensures ∙ ap (λ (p : Played). answer_in p.whole.bus.pools c.args.pool (Ok (figures_of (pool_in p.whole.bus.pools c.args.pool)))) c.self.view_is in
    rw c.figures_answer.ensures
    (decides_still now c.args.app (PoolFigures c.args.pool) (figured c.figures-made.result)
    (figures_made now c.args.app c.args.pool ∙ sym (ap (λ made. (figured made, now.whole)) is)) c.requires)
