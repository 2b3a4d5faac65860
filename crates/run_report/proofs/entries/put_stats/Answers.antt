use Rattle.text_page.proofs.PieceTexts.{◌▸◌}
use Rattle.run_report.proofs.entries.put_stats.Goals as goal

pub returns : goal.returns
returns g c =
    c.put_number.ensures ▸ c.put.ensures ▸ c.put_number-2.ensures ▸ c.put-2.ensures ▸ c.put_number-3.ensures ▸ c.put-3.ensures ▸ c.put_number-4.ensures
    ▸ c.put-4.ensures ▸ c.put_number-5.ensures
