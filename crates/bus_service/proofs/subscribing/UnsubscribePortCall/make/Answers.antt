use Rattle.bus_service.proofs.subscribing.UnsubscribePortCall.make.Goals as goal

pub returns-clause-bag : goal.returns-clause-bag
returns-clause-bag g c = c.unsubscribe.ensures.bags _ _ c.requires.bag
