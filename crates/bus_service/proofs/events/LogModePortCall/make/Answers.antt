use Rattle.bus_service.proofs.events.LogModePortCall.make.Goals as goal

pub returns-clause-bag : goal.returns-clause-bag
returns-clause-bag g c = c.set_log_mode.ensures.bags _ _ c.requires.bag
