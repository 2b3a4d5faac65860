use Rattle.std.proofs.Common.{eqb, count_by, ap, arith}
use Rattle.fsw_base.proofs.Lists.{count_by-map}
use Rattle.bus_routes.specs.Rows.{RouteRow}
use Rattle.bus_routes.specs.Tables.{Tables}
use Rattle.bus_routes.specs.Inside.{way_in}
use Rattle.bus_routes.proofs.tables.BusTables.recall_routes.Goals as goal

pub returns : goal.returns
returns c = λ id.
    omega (
      arith,
      c.recall_routes.ensures.once id,
      count_by-map (λ (route : RouteRow). eqb route.id id) way_in c.self.inside.routes.routes,
      ap (λ (t : Tables). count_by (λ (route : RouteRow). eqb route.id id) t.routes) c.self.view_is,
    )
