use Rattle.std.proofs.Common.{decimal, ap}
use Rattle.text_page.proofs.PieceTexts.{◌▸◌, puts_as}
use Rattle.run_report.proofs.table_entries.put_register.Goals as goal

pub returns : goal.returns
returns g c =
    c.put.ensures ▸ c.put_name.ensures ▸ c.put-2.ensures ▸ c.put_number.ensures ▸ c.put-3.ensures ▸ c.put_number-2.ensures ▸ c.put-4.ensures
    ▸ puts_as _ (ap decimal c.count.ensures.count) c.put_number-3.ensures
