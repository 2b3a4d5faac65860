use Rattle.std.proofs.Common.{decimal, ap}
use Rattle.text_page.proofs.PieceTexts.{◌▸◌, puts_as}
use Rattle.run_report.proofs.entries.put_event.Goals as goal

pub returns : goal.returns
returns g c =
    c.put.ensures ▸ c.put_number.ensures ▸ c.put-2.ensures ▸ puts_as _ (ap decimal c.number.ensures.number) c.put_number-2.ensures ▸ c.put-3.ensures
    ▸ c.put_number-3.ensures
