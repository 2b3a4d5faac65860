use Rattle.text_page.proofs.PieceTexts.{◌▸◌}
use Rattle.run_report.proofs.table_entries.put_handle.Goals as goal

pub returns : goal.returns
returns g c = c.put.ensures ▸ c.put_number.ensures
