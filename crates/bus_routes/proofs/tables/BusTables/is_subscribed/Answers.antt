-- A subscription is found if and only if one ties the id to the pipe.
use Rattle.std.proofs.Common.{length, is_some, ap, ◌∙◌, arith}
use Rattle.bus_words.specs.Bus.{is_subscribed, route}
use Rattle.bus_routes.proofs.Ties.{subscribed_seen, route_seen}
use Rattle.bus_routes.proofs.tables.BusTables.is_subscribed.Goals as goal

pub returns-clause-is : goal.returns-clause-is
returns-clause-is g c =
    c.is_some.ensures
    ∙ ap is_some c.first_of.ensures.first
    ∙ subscribed_seen c.self.inside.subs c.args.id c.args.pipe
    ∙ ap (λ t. is_subscribed t.subscriptions c.args.id c.args.pipe) c.self.view_is

pub returns-clause-cost : goal.returns-clause-cost
returns-clause-cost g c = omega (arith, c.first_of.ensures.cost, route_seen c.self.inside.subs c.args.id, ap (λ t. length (route t.subscriptions c.args.id)) c.self.view_is)
