use Rattle.bus_service.proofs.pipes.CreatePipePortCall.make.Goals as goal

pub returns-clause-bag : goal.returns-clause-bag
returns-clause-bag g c = c.create_pipe.ensures.bags _ _ c.requires.bag
