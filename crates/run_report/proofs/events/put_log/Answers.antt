use Rattle.evs_events.specs.Views.{line_shown}
use Rattle.run_report.specs.EventText.{log_line_text}
use Rattle.text_page.proofs.ListTexts.{flat_map-next}
use Rattle.text_page.proofs.PieceTexts.{◌▸◌, puts_as}
use Rattle.run_report.proofs.events.put_log.Goals as goal

pub loop-i-preserved : goal.loop-i-preserved
loop-i-preserved g c =
    puts_as _ (flat_map-next log_line_text c.args.desk.now.log.lines c.loop-i.i (line_shown c.log_at.result) c.log_at.ensures.line)
    (c.loop-i.invariant ▸ c.put_log_line.ensures)
