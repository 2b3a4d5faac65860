use Rattle.std.proofs.Common.{take}
use Rattle.text_page.specs.Pieces.{Puts}
use Rattle.run_report.specs.BusText.{entries_text}
use Rattle.run_report.proofs.entries.put_entries.Given as goal

abbrev pub invariant-loop-i : goal.invariant-loop-i
invariant-loop-i g l = Puts l.initial.sink l.sink l.initial.page l.page (entries_text (take l.i l.journal.entries))
