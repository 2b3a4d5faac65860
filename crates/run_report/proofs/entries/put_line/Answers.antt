use Rattle.std.proofs.Common.{decimal, ap}
use Rattle.text_page.proofs.PieceTexts.{◌▸◌, puts_as}
use Rattle.run_report.proofs.entries.put_line.Goals as goal

pub returns : goal.returns
returns g c =
    c.put_number.ensures ▸ c.put.ensures ▸ puts_as _ (ap decimal c.get.ensures.value) c.put_number-2.ensures ▸ c.put-2.ensures ▸ c.put_call.ensures
    ▸ c.put-3.ensures ▸ c.put_answer.ensures ▸ c.put-4.ensures
