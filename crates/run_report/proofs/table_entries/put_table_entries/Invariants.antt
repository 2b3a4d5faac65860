use Rattle.std.proofs.Common.{take}
use Rattle.text_page.specs.Pieces.{Puts}
use Rattle.run_report.specs.TableText.{table_entries_text}
use Rattle.run_report.proofs.table_entries.put_table_entries.Given as goal

abbrev pub invariant-loop-i : goal.invariant-loop-i
invariant-loop-i g l = Puts l.initial.sink l.sink l.initial.page l.page (table_entries_text (take l.i l.journal.entries))
