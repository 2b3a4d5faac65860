use Rattle.std.proofs.Common.{ℕ, ◌≤◌, eqb, count_by, subst}
use Rattle.bus_routes.specs.Rows.{RouteRow}
use Rattle.bus_messages.specs.Store.{Store}
use Rattle.bus_messages.proofs.store.BusStore.recall_routes.Goals as goal

pub returns : goal.returns
returns c = subst (λ (o : Store). (id : ℕ) → count_by (λ (r : RouteRow). eqb r.id id) o.routes ≤ 1) c.self.view_is c.recall_routes.ensures
