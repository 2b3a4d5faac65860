use Rattle.text_page.proofs.PieceTexts.{◌▸◌}
use Rattle.script_text.proofs.spelled_words.put_id_word.Goals as goal

pub returns : goal.returns
returns g c = c.put.ensures ▸ c.put_hex_id.ensures
