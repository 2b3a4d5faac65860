use Rattle.std.proofs.Common.{◌+◌, ◌*◌, ◌≤◌}
use Rattle.bus_routes.proofs.FirstOf.{Passed}
use Rattle.bus_routes.proofs.pairs.first_of.Given as goal

abbrev pub invariant-loop : goal.invariant-loop
invariant-loop g l = record {
  passed : Passed l.fn.subs l.routes l.id l.pipe l.route l.counter l.at;
  cost : l.steps ≤ l.fn.steps + 2 + 2 * l.counter;
}
