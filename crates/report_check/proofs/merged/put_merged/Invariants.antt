use Rattle.std.proofs.Common.{◌≡◌, ℕ, ◌+◌, List, ◌++◌, length}
use Rattle.text_page.specs.Pieces.{Puts}
use Rattle.run_report.specs.ReceiptText.{application_text}
use Rattle.run_check.specs.Merged.{merged}
use Rattle.report_check.proofs.merged.put_merged.Given as goal

-- all receipts are those put and those left
abbrev pub invariant-loop-made : goal.invariant-loop-made
invariant-loop-made g l = record {
  put : List ℕ;
  puts : Puts l.initial.sink l.sink l.initial.page l.page put;
  whole : application_text l.app (merged l.bus l.tables) ≡ put ++ application_text l.app (merged l.of_bus l.of_tables);
}

abbrev pub decreases-loop-made : goal.decreases-loop-made
decreases-loop-made g l = length l.of_bus + length l.of_tables
