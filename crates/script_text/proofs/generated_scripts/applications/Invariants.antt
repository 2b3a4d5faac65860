use Rattle.std.proofs.Common.{◌≡◌, ◌+◌, ◌-◌, ◌≤◌, ◌++◌, vec_len, vec_capacity}
use Rattle.script_text.specs.Generated.{applications}
use Rattle.script_text.proofs.generated_scripts.applications.Given as goal

-- the applications so far, and those that are left, are all; there is room for those
abbrev pub invariant-loop-app : goal.invariant-loop-app
invariant-loop-app l = record {
  apps : l.apps.items ++ (applications l.app (5 - l.app) l.generator).0 ≡ (applications 1 4 l.initial.generator).0;
  room : vec_len l.apps + (5 - l.app) ≤ vec_capacity l.apps;
}
