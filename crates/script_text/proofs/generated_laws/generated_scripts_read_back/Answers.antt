use Rattle.script_text.proofs.TextLemmas.{reads_back}
use Rattle.script_text.proofs.generated_laws.generated_scripts_read_back.Goals as goal

pub returns : goal.returns
returns c = reads_back
