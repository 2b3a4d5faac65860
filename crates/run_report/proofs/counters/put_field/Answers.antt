use Rattle.text_page.proofs.PieceTexts.{◌▸◌}
use Rattle.run_report.proofs.counters.put_field.Goals as goal

pub returns : goal.returns
returns g c = c.put.ensures ▸ c.put-2.ensures ▸ c.put-3.ensures ▸ c.put_number.ensures
