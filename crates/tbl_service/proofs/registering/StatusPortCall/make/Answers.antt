use Rattle.tbl_service.proofs.registering.StatusPortCall.make.Goals as goal

pub returns-clause-bag : goal.returns-clause-bag
returns-clause-bag g c = c.status.ensures.bags c.args.app c.args.bag.now c.requires.bag
