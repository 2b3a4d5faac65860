use Rattle.std.proofs.Common.{◌+◌, ◌*◌, ◌≤◌}
use Rattle.bus_routes.proofs.Deliveries.{Walked, Told}
use Rattle.bus_routes.proofs.delivery.along.Given as goal

abbrev pub invariant-loop : goal.invariant-loop
invariant-loop g l = record {
  walked : Walked l.fn.pipes l.fn.subs l.routes l.fn.way.id l.fn.way.place l.message l.counter l.at l.pipes l.subs l.reached;
  told : Told l.fn.pipes l.fn.subs l.fn.way.id l.message l.fn.misses l.counter l.pipes l.misses;
  cost : l.steps ≤ l.fn.steps + 2 + 2 * l.counter;
}
