use Rattle.bus_core.proofs.Figures.{figures_acts}
use Rattle.bus_core.proofs.plain.PlainBus.bus_stats.Goals as goal

pub returns : goal.returns
returns c = λ app.
    figures_acts c.self.inside c.args.self.now c.self.view_is c.in_use-now.result c.in_use-now.ensures.now app c.counters-counters.result.now c.at.result c.at-2.result c.at-3.result
    c.self.invariant c.counters-counters.ensures c.at.ensures c.at-2.ensures c.at-3.ensures
