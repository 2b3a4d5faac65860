use Rattle.bus_service.proofs.events.ClearLogPortCall.make.Goals as goal

pub returns-clause-bag : goal.returns-clause-bag
returns-clause-bag g c = c.clear_log.ensures.bags _ _ c.requires.bag
