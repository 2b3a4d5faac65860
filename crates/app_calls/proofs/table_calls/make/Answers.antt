use Rattle.app_calls.proofs.table_calls.make.Goals as goal

pub returns-in-Register-clause-bag : goal.returns-in-Register-clause-bag
returns-in-Register-clause-bag g c = c.register.ensures.bags c.args.app c.args.held.now c.requires.bag

pub returns-in-Share-clause-bag : goal.returns-in-Share-clause-bag
returns-in-Share-clause-bag g c = c.share.ensures.bags c.args.app c.args.held.now c.requires.bag

pub returns-in-Stage-clause-bag : goal.returns-in-Stage-clause-bag
returns-in-Stage-clause-bag g c = c.stage.ensures.bags c.args.app c.args.held.now c.requires.bag

pub returns-in-Validate-clause-bag : goal.returns-in-Validate-clause-bag
returns-in-Validate-clause-bag g c = c.validate.ensures.bags c.args.app c.args.held.now c.requires.bag

pub returns-in-Update-clause-bag : goal.returns-in-Update-clause-bag
returns-in-Update-clause-bag g c = c.update.ensures.bags c.args.app c.args.held.now c.requires.bag

pub returns-in-Abort-clause-bag : goal.returns-in-Abort-clause-bag
returns-in-Abort-clause-bag g c = c.abort_load.ensures.bags c.args.app c.args.held.now c.requires.bag

pub returns-in-Load-clause-bag : goal.returns-in-Load-clause-bag
returns-in-Load-clause-bag g c = c.load.ensures.bags c.args.app c.args.held.now c.requires.bag

pub returns-in-Status-clause-bag : goal.returns-in-Status-clause-bag
returns-in-Status-clause-bag g c = c.status.ensures.bags c.args.app c.args.held.now c.requires.bag
