use Rattle.script_text.proofs.ScriptLemmas.{generated_in, generated_few}
use Rattle.script_text.proofs.generated_laws.generated_scripts_are_in_range.Goals as goal

pub returns : goal.returns
returns c = record { scripts = generated_in; calls = generated_few }
