use Rattle.std.proofs.Common.{length, refl}
use Rattle.std.proofs.lemmas.Option.{slice_get_read}
use Rattle.run_report.specs.ReceiptText.{application_text}
use Rattle.text_page.proofs.ListTexts.{numbered-map-next}
use Rattle.text_page.proofs.PieceTexts.{◌▸◌, puts_as}
use Rattle.run_report.proofs.receipts.put_receipts.Goals as goal

pub loop-i-preserved : goal.loop-i-preserved
loop-i-preserved g c =
    let lists = c.args.receipts.now in
    let list = c.index-receipts-i.result in
    puts_as _ (numbered-map-next application_text (λ l. l.receipts) lists c.loop-i.i list
    (slice_get_read lists (length lists) c.loop-i.i list refl c.loop-i-test.true c.index-receipts-i.is))
    (c.loop-i.invariant ▸ c.put_application.ensures)
