use Rattle.bus_service.proofs.pipes.PipeNamePortCall.make.Goals as goal

pub returns-clause-bag : goal.returns-clause-bag
returns-clause-bag g c = c.pipe_name.ensures.bags _ _ c.requires.bag
