use Rattle.text_page.proofs.PieceTexts.{◌▸◌, puts_as}
use Rattle.script_text.proofs.script_printing.put_application.Goals as goal

pub returns : goal.returns
returns g c = c.put.ensures ▸ puts_as _ c.name.ensures c.put-2.ensures ▸ c.put-3.ensures ▸ c.put_lines.ensures
