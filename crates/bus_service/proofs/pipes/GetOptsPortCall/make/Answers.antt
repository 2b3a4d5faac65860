use Rattle.bus_service.proofs.pipes.GetOptsPortCall.make.Goals as goal

pub returns-clause-bag : goal.returns-clause-bag
returns-clause-bag g c = c.get_opts.ensures.bags _ _ c.requires.bag
