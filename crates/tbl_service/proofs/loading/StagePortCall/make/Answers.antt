use Rattle.tbl_service.proofs.loading.StagePortCall.make.Goals as goal

pub returns-clause-bag : goal.returns-clause-bag
returns-clause-bag g c = c.stage.ensures.bags c.args.app c.args.bag.now c.requires.bag
