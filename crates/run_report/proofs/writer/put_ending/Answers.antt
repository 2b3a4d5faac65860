use Rattle.std.proofs.Common.{ap}
use Rattle.run_report.specs.CounterText.{uses_text}
use Rattle.text_page.proofs.PieceTexts.{◌▸◌, puts_as}
use Rattle.run_report.proofs.writer.put_ending.Goals as goal

pub returns : goal.returns
returns g c =
    c.put.ensures
    ▸ (c.put_counts.ensures ▸ puts_as _ (ap (uses_text c.args.bus.now.in_use) c.peak.ensures) c.put_uses.ensures ▸ c.put_account.ensures
    ▸ c.put_app_pools.ensures ▸ c.put_desk.ensures ▸ c.put_table_uses.ensures ▸ c.put_account-2.ensures)
    ▸ c.put-2.ensures
