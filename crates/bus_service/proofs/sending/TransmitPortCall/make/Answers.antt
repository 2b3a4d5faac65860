use Rattle.bus_service.proofs.sending.TransmitPortCall.make.Goals as goal

pub returns-clause-bag : goal.returns-clause-bag
returns-clause-bag g c = c.transmit.ensures.bags _ _ c.requires.bag
