use Rattle.text_page.proofs.PieceTexts.{◌▸◌}
use Rattle.run_report.proofs.entries.put_find.Goals as goal

pub returns : goal.returns
returns g c = c.put.ensures ▸ c.put_name.ensures
