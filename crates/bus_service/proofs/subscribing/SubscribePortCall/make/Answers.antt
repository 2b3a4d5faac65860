use Rattle.bus_service.proofs.subscribing.SubscribePortCall.make.Goals as goal

pub returns-clause-bag : goal.returns-clause-bag
returns-clause-bag g c = c.subscribe.ensures.bags _ _ c.requires.bag
