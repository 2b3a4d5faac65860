use Rattle.std.proofs.Common.{sym}
use Rattle.tbl_words.specs.Tables.{account_of}
use Rattle.tbl_load.specs.Core.{state_of}
use Rattle.run_report.proofs.Accounts.{one_account}
use Rattle.host_report.proofs.Figures.{table-figures-as}
use Rattle.host_report.proofs.reporting.table_readings.Goals as goal

pub returns-clause-figures : goal.returns-clause-figures
returns-clause-figures c =
    let tables = c.args.tables.now in
    table-figures-as c.tables_now.ensures c.tables_peak.ensures
    (sym (one_account c.pool.result.now (account_of tables.limits (state_of tables)) c.pool.ensures.account))
