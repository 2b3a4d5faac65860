use Rattle.run_check.proofs.TableProgress.{applications_go_on_at_tables, next_table_calls_are_known, next_table_calls_may_come}
use Rattle.run_check.proofs.laws.next_table_calls_are_known.Goals as goal

pub returns : goal.returns
returns c = record { known = next_table_calls_are_known; may_come = next_table_calls_may_come; goes_on = applications_go_on_at_tables }
