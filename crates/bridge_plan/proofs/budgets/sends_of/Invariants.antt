use Rattle.std.proofs.Common.{◌≡◌, ◌+◌, ◌*◌, ◌≤◌, drop}
use Rattle.app_script.specs.ScriptRanges.{all_calls, all_bytes}
use Rattle.bridge_plan.specs.Sends.{together, sends_of}
use Rattle.bridge_plan.proofs.budgets.sends_of.Given as goal

-- the applications that are left send the rest, and are no heavier than all
abbrev pub invariant-loop-app : goal.invariant-loop-app
invariant-loop-app l = record {
  sent : together l.sends (sends_of (drop l.app-index l.apps)) ≡ sends_of l.apps;
  lines : l.sends.lines + all_calls (drop l.app-index l.apps) ≤ 20000;
  bytes : l.sends.bytes + (all_bytes (drop l.app-index l.apps) + 64 * all_calls (drop l.app-index l.apps)) ≤ 18057216;
  light : all_bytes (drop l.app-index l.apps) ≤ 16777216;
}
