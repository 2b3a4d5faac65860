use Rattle.text_page.proofs.PieceTexts.{◌▸◌, puts_as}
use Rattle.report_check.specs.Tails.{receipts_kept}
use Rattle.report_check.proofs.MergedTexts.{receipts_more}
use Rattle.report_check.proofs.merged.put_receipts.Goals as goal

pub loop-i-preserved : goal.loop-i-preserved
loop-i-preserved g c =
    puts_as _ (receipts_more (receipts_kept c.args.bus.now.places c.args.tables.now.places) c.loop-i.i) (c.loop-i.invariant ▸ c.put_application.ensures)
