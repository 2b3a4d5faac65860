-- The destinations of an id are its live subscriptions.
use Rattle.std.proofs.Common.{length, ap, sym, ◌∙◌}
use Rattle.bus_words.specs.Bus.{route}
use Rattle.bus_routes.proofs.Endings.{route_there}
use Rattle.bus_routes.proofs.Ties.{dests_seen, no_dests}
use Rattle.bus_routes.proofs.tables.BusTables.dests_of.Goals as goal

pub dests_of-requires : goal.dests_of-requires
dests_of-requires c = (route_there c.self.inside.routes.routes c.args.id c.in-Some.route (sym c.route_of.ensures ∙ c.in-Some.is)).0

pub returns-in-Some : goal.returns-in-Some
returns-in-Some c =
    c.dests_of.ensures
    ∙ dests_seen c.self.inside.subs c.self.inside.routes c.args.id c.in-Some.route c.self.invariant.routed (sym c.route_of.ensures ∙ c.in-Some.is)
    ∙ ap (λ t. length (route t.subscriptions c.args.id)) c.self.view_is

pub returns-in-None : goal.returns-in-None
returns-in-None c =
    no_dests c.self.inside.subs c.self.inside.routes c.args.id c.self.invariant.routed (sym c.route_of.ensures ∙ c.in-None.is)
    ∙ ap (λ t. length (route t.subscriptions c.args.id)) c.self.view_is
