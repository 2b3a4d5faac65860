use Rattle.run_check.proofs.Progress.{applications_go_on, next_calls_are_known, next_calls_may_come}
use Rattle.run_check.proofs.laws.next_calls_are_known.Goals as goal

pub returns : goal.returns
returns c = record { known = next_calls_are_known; may_come = next_calls_may_come; goes_on = applications_go_on }
