use Rattle.text_page.proofs.PieceTexts.{◌▸◌}
use Rattle.run_report.proofs.pools.put_account.Goals as goal

pub returns : goal.returns
returns g c = c.put_pool.ensures ▸ c.put_classes.ensures
