use Rattle.script_runs.proofs.EndsCome.{run-guarantees}
use Rattle.script_runs.proofs.laws.runs_guarantee.Goals as goal

pub returns : goal.returns
returns c = run-guarantees
