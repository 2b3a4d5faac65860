use Rattle.tbl_service.proofs.loading.AbortPortCall.make.Goals as goal

pub returns-clause-bag : goal.returns-clause-bag
returns-clause-bag g c = c.abort_load.ensures.bags c.args.app c.args.bag.now c.requires.bag
