use Rattle.script_lines.proofs.ReadLines.{readable_lines}
use Rattle.script_lines.proofs.laws.read_lines_are_readable.Goals as goal

pub returns : goal.returns
returns c = readable_lines
