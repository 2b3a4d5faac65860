use Rattle.std.proofs.Common.{take}
use Rattle.std.specs.List.{flat_map}
use Rattle.text_page.specs.Pieces.{Puts}
use Rattle.run_report.specs.EventText.{log_line_text}
use Rattle.run_report.proofs.events.put_log.Given as goal

abbrev pub invariant-loop-i : goal.invariant-loop-i
invariant-loop-i g l = Puts l.initial.sink l.sink l.initial.page l.page (flat_map log_line_text (take l.i l.desk.log.lines))
