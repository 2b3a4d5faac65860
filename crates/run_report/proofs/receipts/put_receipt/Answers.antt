use Rattle.text_page.proofs.PieceTexts.{◌▸◌}
use Rattle.run_report.proofs.receipts.put_receipt.Goals as goal

pub returns : goal.returns
returns g c = c.put.ensures ▸ c.put_number.ensures ▸ c.put-2.ensures ▸ c.put_seen.ensures ▸ c.put-3.ensures
