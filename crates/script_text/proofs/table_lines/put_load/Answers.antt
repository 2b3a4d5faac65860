use Rattle.text_page.proofs.PieceTexts.{◌▸◌}
use Rattle.script_text.proofs.table_lines.put_load.Goals as goal

pub returns : goal.returns
returns g c = c.put.ensures ▸ c.put_register.ensures ▸ c.put_figure.ensures ▸ c.put_content_word.ensures
