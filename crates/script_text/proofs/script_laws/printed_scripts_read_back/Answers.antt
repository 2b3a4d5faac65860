use Rattle.script_text.proofs.AppsBack.{scripts_back}
use Rattle.script_text.proofs.script_laws.printed_scripts_read_back.Goals as goal

pub returns : goal.returns
returns c = scripts_back
