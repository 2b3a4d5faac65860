use Rattle.bus_service.proofs.counters.FiguresPortCall.make.Goals as goal

pub returns-clause-bag : goal.returns-clause-bag
returns-clause-bag g c = c.bus_stats.ensures.bags _ _ c.requires.bag
