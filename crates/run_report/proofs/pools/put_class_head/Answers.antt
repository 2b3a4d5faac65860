use Rattle.std.proofs.Common.{ap, sym}
use Rattle.run_report.specs.CounterText.{class_head}
use Rattle.text_page.proofs.PieceTexts.{◌▸◌, puts_as}
use Rattle.run_report.proofs.pools.put_class_head.Goals as goal

pub returns-in-Applications : goal.returns-in-Applications
returns-in-Applications g c =
    puts_as (class_head c.args.name) (ap class_head (sym c.in-Applications.is)) (c.put-in-Applications.ensures ▸ c.put_number.ensures)
