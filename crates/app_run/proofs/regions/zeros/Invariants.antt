use Rattle.std.proofs.Common.{length, ◌-◌, ◌≤◌}
use Rattle.app_run.proofs.regions.zeros.Given as goal

abbrev pub invariant-loop-page : goal.invariant-loop-page
invariant-loop-page l = length l.block.items ≤ l.count

abbrev pub decreases-loop-page : goal.decreases-loop-page
decreases-loop-page l = l.count - length l.block.items
