use Rattle.std.proofs.Common.{take}
use Rattle.text_page.specs.Pieces.{Puts}
use Rattle.run_report.specs.CounterText.{accounts_text}
use Rattle.report_check.proofs.accounts.put_accounts.Given as goal

abbrev pub invariant-loop-i : goal.invariant-loop-i
invariant-loop-i g l = Puts l.initial.sink l.sink l.initial.page l.page (accounts_text (take l.i l.accounts))
