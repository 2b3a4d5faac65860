use Rattle.std.proofs.Common.{take, map}
use Rattle.fsw_base.specs.Grants.{pool_account}
use Rattle.text_page.specs.Pieces.{Puts}
use Rattle.run_report.specs.CounterText.{accounts_text}
use Rattle.run_report.proofs.pools.put_app_pools.Given as goal

abbrev pub invariant-loop-i : goal.invariant-loop-i
invariant-loop-i g l = Puts l.initial.sink l.sink l.initial.page l.page (accounts_text (map pool_account (take l.i l.pools.pools)))
