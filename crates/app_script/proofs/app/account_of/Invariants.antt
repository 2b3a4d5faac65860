use Rattle.std.proofs.Common.{◌≡◌, ◌≤◌, drop, fold}
use Rattle.script_settings.specs.Accounts.{account_of, with_line}
use Rattle.app_script.proofs.app.account_of.Given as goal

-- the lines that are left make it the account of all; so far it has one call a line
abbrev pub invariant-loop-line : goal.invariant-loop-line
invariant-loop-line l = record {
  left : fold with_line l.account (drop l.line-index l.lines) ≡ account_of l.lines;
  calls : l.account.calls ≡ l.line-index;
  waits : l.account.waits ≤ l.line-index;
  buffers : l.account.buffers ≤ l.line-index;
}
