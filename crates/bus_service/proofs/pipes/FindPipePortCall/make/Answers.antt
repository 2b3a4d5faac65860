use Rattle.bus_service.proofs.pipes.FindPipePortCall.make.Goals as goal

pub returns-clause-bag : goal.returns-clause-bag
returns-clause-bag g c = c.find_pipe.ensures.bags _ _ c.requires.bag
