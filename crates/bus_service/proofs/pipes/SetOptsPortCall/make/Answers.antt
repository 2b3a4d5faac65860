use Rattle.bus_service.proofs.pipes.SetOptsPortCall.make.Goals as goal

pub returns-clause-bag : goal.returns-clause-bag
returns-clause-bag g c = c.set_opts.ensures.bags _ _ c.requires.bag
