use Rattle.std.proofs.Common.{take, map}
use Rattle.text_page.specs.Pieces.{Puts}
use Rattle.run_report.specs.ReceiptText.{receipts_text}
use Rattle.run_report.proofs.receipts.put_receipts.Given as goal

abbrev pub invariant-loop-i : goal.invariant-loop-i
invariant-loop-i g l = Puts l.initial.sink l.sink l.initial.page l.page (receipts_text (map (λ list. list.receipts) (take l.i l.receipts)))
