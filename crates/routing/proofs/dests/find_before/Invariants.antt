use Rattle.std.proofs.Common.{◌+◌, ◌-◌, ◌≤◌}
use Rattle.routing.proofs.Walk.{IsAt}
use Rattle.routing.proofs.dests.find_before.Given as goal

abbrev pub invariant-loop : goal.invariant-loop
invariant-loop g l = record { at : IsAt l.links l.subs l.sub l.anchor l.len l.before (l.len - l.counter); cost : l.steps ≤ l.fn.steps + l.counter }
