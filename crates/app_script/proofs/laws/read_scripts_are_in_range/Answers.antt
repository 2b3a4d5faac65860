use Rattle.app_script.proofs.ReadScripts.{scripts}
use Rattle.app_script.proofs.InRange.{in_range}
use Rattle.app_script.proofs.laws.read_scripts_are_in_range.Goals as goal

pub returns : goal.returns
returns c = record { scripts = scripts; runs = in_range }
