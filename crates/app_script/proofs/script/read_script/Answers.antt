use Rattle.app_script.proofs.ReadScripts.{read_script_is}
use Rattle.app_script.proofs.script.read_script.Goals as goal

pub into_script-requires-clause-text : goal.into_script-requires-clause-text
into_script-requires-clause-text c = read_script_is c.args.bytes.now c.read_all.new.reading c.in_ok-read_all.ensures.script
