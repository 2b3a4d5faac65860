use Rattle.std.proofs.Common.{map}
use Rattle.std.specs.List.{range_with_len}
use Rattle.text_page.specs.Pieces.{Puts}
use Rattle.run_report.specs.ReceiptText.{receipts_text}
use Rattle.report_check.specs.Tails.{receipts_kept}
use Rattle.report_check.proofs.merged.put_receipts.Given as goal

abbrev pub invariant-loop-i : goal.invariant-loop-i
invariant-loop-i g l = Puts l.initial.sink l.sink l.initial.page l.page (receipts_text (map (receipts_kept l.bus.places l.tables.places) (range_with_len 1 l.i)))
