use Rattle.bus_service.proofs.events.RegisterFiltersPortCall.make.Goals as goal

pub returns-clause-bag : goal.returns-clause-bag
returns-clause-bag g c = c.evs_register.ensures.bags _ _ c.requires.bag
