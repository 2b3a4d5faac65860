use Rattle.text_page.proofs.PieceTexts.{◌▸◌}
use Rattle.run_report.proofs.entries.put_unsubscribe.Goals as goal

pub returns : goal.returns
returns g c = c.put.ensures ▸ c.put_hex_id.ensures ▸ c.put-2.ensures ▸ c.put_number.ensures
