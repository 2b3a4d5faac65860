use Rattle.bus_service.proofs.counters.HousekeepingPortCall.make.Goals as goal

pub returns-clause-bag : goal.returns-clause-bag
returns-clause-bag g c = c.send_housekeeping.ensures.bags _ _ c.requires.bag
