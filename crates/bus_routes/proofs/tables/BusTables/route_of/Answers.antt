use Rattle.std.proofs.Common.{is_some, ap, sym, ◌∙◌}
use Rattle.bus_routes.specs.Rows.{has_way, way_of}
use Rattle.bus_routes.specs.Tables.{Tables}
use Rattle.bus_routes.proofs.Readers.{way_there, place_there}
use Rattle.bus_routes.proofs.tables.BusTables.route_of.Goals as goal

pub returns-clause-place : goal.returns-clause-place
returns-clause-place c =
    c.route_of.ensures
    ∙ sym (place_there 0 c.self.inside.routes.routes c.args.id)
    ∙ ap (λ (t : Tables). way_of t.routes c.args.id) c.self.view_is

pub returns-clause-some : goal.returns-clause-some
returns-clause-some c =
    ap is_some c.route_of.ensures
    ∙ way_there c.self.inside.routes.routes c.args.id
    ∙ ap (λ (t : Tables). has_way t.routes c.args.id) c.self.view_is
