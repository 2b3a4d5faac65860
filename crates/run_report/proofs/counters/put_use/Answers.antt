use Rattle.text_page.proofs.PieceTexts.{◌▸◌}
use Rattle.run_report.proofs.counters.put_use.Goals as goal

pub returns : goal.returns
returns g c = c.put_field.ensures ▸ c.put.ensures ▸ c.put_number.ensures
