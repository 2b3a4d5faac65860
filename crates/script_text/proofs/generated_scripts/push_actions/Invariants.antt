use Rattle.std.proofs.Common.{◌≡◌, ◌+◌, ◌-◌, ◌*◌, ◌≤◌, ◌++◌, vec_len, vec_capacity}
use Rattle.script_text.specs.Generated.{actions}
use Rattle.script_text.proofs.generated_scripts.push_actions.Given as goal

-- the lines so far, and those of the actions that are left, are all; there is room for those
abbrev pub invariant-loop-action : goal.invariant-loop-action
invariant-loop-action l = record {
  lines : l.lines.items ++ (actions (250 - l._action) l.generator).0 ≡ l.initial.lines.items ++ (actions 250 l.initial.generator).0;
  moved : (actions (250 - l._action) l.generator).1 ≡ (actions 250 l.initial.generator).1;
  room : vec_len l.lines + 3 * (250 - l._action) ≤ vec_capacity l.lines;
}
