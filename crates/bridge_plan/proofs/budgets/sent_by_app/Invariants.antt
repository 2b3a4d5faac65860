use Rattle.std.proofs.Common.{◌≡◌, ◌+◌, ◌*◌, ◌≤◌, drop, fold}
use Rattle.script_settings.specs.Accounts.{no_calls, account_of, with_line}
use Rattle.bridge_plan.specs.Sends.{together, sent_from}
use Rattle.bridge_plan.proofs.budgets.sent_by_app.Given as goal

-- the lines that are left send the rest, and make the account that of all
abbrev pub invariant-loop-i : goal.invariant-loop-i
invariant-loop-i l = record {
  sent : together l.sends (sent_from l.account (drop l.i l.app.lines)) ≡ sent_from no_calls l.app.lines;
  left : fold with_line l.account (drop l.i l.app.lines) ≡ account_of l.app.lines;
  calls : l.account.calls ≡ l.i;
  waits : l.account.waits ≤ l.i;
  buffers : l.account.buffers ≤ l.i;
  lines : l.sends.lines ≤ l.i;
  bytes : l.sends.bytes ≤ l.account.bytes + 64 * l.i;
}
