use Rattle.text_page.proofs.PieceTexts.{◌▸◌}
use Rattle.script_text.specs.Spelling.{line_words}
use Rattle.script_text.proofs.bus_lines.put_subscribe.Goals as goal

pub returns : goal.returns
unfolding line_words
returns g c = c.put.ensures ▸ c.put_id_word.ensures ▸ c.put_register.ensures ▸ c.put_figure.ensures ▸ c.put_scope_word.ensures
