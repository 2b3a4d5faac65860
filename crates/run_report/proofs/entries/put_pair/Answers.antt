use Rattle.text_page.proofs.PieceTexts.{◌▸◌}
use Rattle.run_report.proofs.entries.put_pair.Goals as goal

pub returns : goal.returns
returns g c = c.put_numbered.ensures ▸ c.put.ensures ▸ c.put_number.ensures
