use Rattle.std.proofs.Common.{map, ap, sym}
use Rattle.fsw_base.specs.Grants.{pool_account}
use Rattle.bus_words.specs.Held.{account_of}
use Rattle.sb_calls.specs.Core.{state_of}
use Rattle.run_report.proofs.Accounts.{one_account}
use Rattle.host_report.proofs.Figures.{figures-as}
use Rattle.host_report.proofs.reporting.bus_readings.Goals as goal

pub returns-clause-figures : goal.returns-clause-figures
returns-clause-figures c =
    let bus = c.args.bus.now in
    figures-as c.version.ensures c.events.ensures.desk c.counters.ensures.statistics c.in_use.ensures.now
    (sym (one_account c.pool.result.now (account_of bus.limits (state_of bus)) c.pool.ensures.account))
    (ap (λ pools. map pool_account pools.pools) c.pools.ensures)
