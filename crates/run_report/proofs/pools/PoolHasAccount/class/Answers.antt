use Rattle.run_report.proofs.Accounts.{class-read}
use Rattle.run_report.proofs.pools.PoolHasAccount.class.Goals as goal

pub returns : goal.returns
returns c = class-read c.args.self.now c.args.class c.class.result c.requires c.class.ensures
