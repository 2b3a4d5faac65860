use Rattle.std.proofs.Common.{is_some, ap, ◌∙◌}
use Rattle.bus_routes.specs.Rows.{has_way}
use Rattle.bus_routes.specs.Tables.{Tables}
use Rattle.bus_routes.proofs.Readers.{way_there}
use Rattle.bus_routes.proofs.tables.BusTables.has_route.Goals as goal

pub returns : goal.returns
returns c =
    c.is_some.ensures
    ∙ ap is_some c.route_of.ensures
    ∙ way_there c.self.inside.routes.routes c.args.id
    ∙ ap (λ (t : Tables). has_way t.routes c.args.id) c.self.view_is
