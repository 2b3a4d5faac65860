use Rattle.run_report.specs.ReceiptText.{receipt_text}
use Rattle.text_page.proofs.ListTexts.{flat_map-next}
use Rattle.text_page.proofs.PieceTexts.{◌▸◌, puts_as}
use Rattle.run_report.proofs.receipts.put_application.Goals as goal

pub loop-i-preserved : goal.loop-i-preserved
loop-i-preserved g c =
    puts_as _ (flat_map-next (receipt_text c.args.app) c.args.list.now.receipts c.loop-i.i c.get.result.now c.get.ensures) (c.loop-i.invariant ▸ c.put_receipt.ensures)
