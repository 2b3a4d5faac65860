use Rattle.text_page.proofs.PieceTexts.{◌▸◌}
use Rattle.script_text.specs.Spelling.{line_words}
use Rattle.script_text.proofs.event_lines.put_log_mode.Goals as goal

pub returns : goal.returns
unfolding line_words
returns g c = c.put.ensures ▸ c.put_figure.ensures
