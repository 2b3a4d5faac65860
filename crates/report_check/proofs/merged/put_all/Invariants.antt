use Rattle.std.proofs.Common.{take}
use Rattle.text_page.specs.Pieces.{Puts}
use Rattle.run_check.specs.Merged.{receipts_in}
use Rattle.run_report.specs.ReceiptText.{application_text}
use Rattle.report_check.proofs.merged.put_all.Given as goal

abbrev pub invariant-loop-i : goal.invariant-loop-i
invariant-loop-i g l = Puts l.initial.sink l.sink l.initial.page l.page (application_text l.app (receipts_in (take l.i l.made)))
