use Rattle.bus_service.proofs.events.SendEventPortCall.make.Goals as goal

pub returns-clause-bag : goal.returns-clause-bag
returns-clause-bag g c = c.send_event.ensures.bags _ _ c.requires.bag
