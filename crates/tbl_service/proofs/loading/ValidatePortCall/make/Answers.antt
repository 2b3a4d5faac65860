use Rattle.tbl_service.proofs.loading.ValidatePortCall.make.Goals as goal

pub returns-clause-bag : goal.returns-clause-bag
returns-clause-bag g c = c.validate.ensures.bags c.args.app c.args.bag.now c.requires.bag
