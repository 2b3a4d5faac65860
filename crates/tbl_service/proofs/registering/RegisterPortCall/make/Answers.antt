use Rattle.tbl_service.proofs.registering.RegisterPortCall.make.Goals as goal

pub returns-clause-bag : goal.returns-clause-bag
returns-clause-bag g c = c.register.ensures.bags c.args.app c.args.bag.now c.requires.bag
