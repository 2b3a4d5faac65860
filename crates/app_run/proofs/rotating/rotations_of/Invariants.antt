use Rattle.std.proofs.Common.{◌≡◌, ◌+◌, ◌*◌, ◌≤◌, take, length, sum_by}
use Rattle.app_run.proofs.rotating.rotations_of.Given as goal

-- the rotations for the applications so far
abbrev pub invariant-loop-i : goal.invariant-loop-i
invariant-loop-i l = (l.rotations ≡ sum_by (λ a. 2 * length a.lines + 1) (take l.i l.script.apps)) × (l.rotations ≤ 40001 * l.i)
