use Rattle.run_check.proofs.WrongLines.{wrong_lines}
use Rattle.run_check.proofs.laws.wrong_lines_are_first.Goals as goal

pub returns : goal.returns
returns c = wrong_lines
