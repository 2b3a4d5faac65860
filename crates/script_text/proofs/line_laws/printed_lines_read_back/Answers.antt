use Rattle.script_text.proofs.LinesBack.{reads_back}
use Rattle.script_text.proofs.line_laws.printed_lines_read_back.Goals as goal

pub returns : goal.returns
returns c = reads_back
