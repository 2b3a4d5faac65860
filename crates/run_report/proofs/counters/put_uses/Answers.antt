use Rattle.text_page.proofs.PieceTexts.{◌▸◌}
use Rattle.run_report.proofs.counters.put_uses.Goals as goal

pub returns : goal.returns
returns g c =
    c.put.ensures ▸ c.put_use.ensures ▸ c.put_use-2.ensures ▸ c.put_use-3.ensures ▸ c.put_use-4.ensures ▸ c.put_use-5.ensures ▸ c.put-2.ensures
