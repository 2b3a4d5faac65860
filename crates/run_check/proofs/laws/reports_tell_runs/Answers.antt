use Rattle.run_check.proofs.Reports.{next_entries, next_table_entries, reports_tell_runs}
use Rattle.run_check.proofs.laws.reports_tell_runs.Goals as goal

pub returns : goal.returns
returns c = record { reports = reports_tell_runs; next = next_entries; next_at_tables = next_table_entries }
