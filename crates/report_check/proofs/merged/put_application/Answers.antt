use Rattle.std.proofs.Common.{ap}
use Rattle.text_page.proofs.PieceTexts.{puts_as}
use Rattle.run_report.specs.ReceiptText.{application_text}
use Rattle.report_check.specs.Tails.{receipts_kept}
use Rattle.report_check.proofs.KeptReceipts.{kept_are_merged}
use Rattle.report_check.proofs.merged.put_application.Goals as goal

pub returns : goal.returns
returns g c =
    let places = c.args.bus.now.places in
    let table_places = c.args.tables.now.places in
    puts_as (application_text c.args.number (receipts_kept places table_places c.args.number))
    (ap (application_text c.args.number)
    (kept_are_merged places table_places c.in-Some.app c.args.number c.receipts.result.now c.receipts-2.result.now c.in-Some.ensures.value c.requires.first c.requires.bus c.requires.tables
    c.receipts.ensures c.receipts-2.ensures))
    c.put_merged.ensures
