use Rattle.run_report.proofs.Accounts.{figures-read}
use Rattle.run_report.proofs.pools.PoolHasAccount.figures.Goals as goal

pub returns : goal.returns
returns c = figures-read c.args.self.now c.stats.result c.recall_whole.ensures c.stats.ensures
