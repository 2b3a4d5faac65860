use Rattle.std.proofs.Common.{take}
use Rattle.text_page.specs.Pieces.{Puts}
use Rattle.run_report.specs.ReceiptText.{application_text}
use Rattle.run_report.proofs.receipts.put_application.Given as goal

abbrev pub invariant-loop-i : goal.invariant-loop-i
invariant-loop-i g l = Puts l.initial.sink l.sink l.initial.page l.page (application_text l.app (take l.i l.list.receipts))
