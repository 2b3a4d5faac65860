use Rattle.bus_service.proofs.events.ResetFilterPortCall.make.Goals as goal

pub returns-clause-bag : goal.returns-clause-bag
returns-clause-bag g c = c.reset_filter.ensures.bags _ _ c.requires.bag
