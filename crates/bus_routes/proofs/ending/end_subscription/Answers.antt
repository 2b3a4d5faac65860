-- The live subscription has a route, of which it is a destination.
use Rattle.std.proofs.Common.{◌≡◌, length, Some, ap, sym, subst, ◌∙◌, arith}
use Rattle.subscriptions.specs.Subs.{live_at, without}
use Rattle.routing.specs.Routing.{route_of}
use Rattle.bus_routes.specs.Inside.{AreRouted, of_id, ways_of}
use Rattle.bus_routes.proofs.Endings.{at_row, route_there, is_dest, route_length, ended_ways, ended_routed, has_route}
use Rattle.bus_routes.proofs.ending.end_subscription.Goals as goal
use Rattle.bus_routes.proofs.ending.end_subscription.Goals.{in-Some, in_default}

pub remove_dest-requires-clause-route : goal.remove_dest-requires-clause-route
remove_dest-requires-clause-route g c = (route_there c.args.routes.now.routes c.at-id.result.id c.in-Some.route (sym c.route_of.ensures ∙ c.in-Some.is)).0

pub remove_dest-requires-clause-there : goal.remove_dest-requires-clause-there
remove_dest-requires-clause-there g c =
    let subs = c.args.subs.now in
    let routes = c.args.routes.now in
    let at = at_row (live_at subs c.args.sub) c.at-id.result c.at-id.ensures in
    is_dest subs routes c.args.sub at.0 c.in-Some.route c.recall_order.ensures.rising at.1 c.requires.routed (ap (route_of routes.routes) at.2 ∙ sym c.route_of.ensures ∙ c.in-Some.is)

pub returns-clause-routed : goal.returns-clause-routed
returns-clause-routed g c =
    let subs = c.args.subs.now in
    let routes = c.args.routes.now in
    let at = at_row (live_at subs c.args.sub) c.at-id.result c.at-id.ensures in
    let left : AreRouted (without subs c.args.sub) c.match-route_of.routes = elim c.match-route_of.branch [
      | in-Some w ↦
          ended_routed subs routes c.args.sub at.0 w.in-Some.route c.recall_order.ensures.rising at.1 c.requires.routed
          (ap (route_of routes.routes) at.2 ∙ sym c.route_of.ensures ∙ w.in-Some.is) c.match-route_of.routes (w.routes-is ∙ w.remove_dest.ensures.after)
      | in_default w ↦ absurd (has_route subs routes c.args.sub at.0 at.1 c.requires.routed (ap (route_of routes.routes) at.2 ∙ sym c.route_of.ensures ∙ w.in_default.is))
    ] in
    subst (λ now. AreRouted now c.match-route_of.routes) (sym c.remove.ensures) left

pub returns-clause-ways : goal.returns-clause-ways
returns-clause-ways g c =
    let subs = c.args.subs.now in
    let routes = c.args.routes.now in
    let at = at_row (live_at subs c.args.sub) c.at-id.result c.at-id.ensures in
    elim c.match-route_of.branch [
      | in-Some w ↦
          ended_ways subs routes c.args.sub at.0 w.in-Some.route c.recall_order.ensures.rising at.1 c.requires.routed
          (ap (route_of routes.routes) at.2 ∙ sym c.route_of.ensures ∙ w.in-Some.is) c.match-route_of.routes (w.routes-is ∙ w.remove_dest.ensures.after)
      | in_default w ↦ ap ways_of w.routes-is
    ]

pub returns-clause-cost : goal.returns-clause-cost
returns-clause-cost g c = λ s live.
    let subs = c.args.subs.now in
    let routes = c.args.routes.now in
    let at = at_row (live_at subs c.args.sub) c.at-id.result c.at-id.ensures in
    let both : Some s ≡ Some at.0 = sym live ∙ at.1 in
    let same : s ≡ at.0 = cc in
    elim c.match-route_of.branch [
      | in-Some w ↦
          let is = ap (route_of routes.routes) at.2 ∙ sym c.route_of.ensures ∙ w.in-Some.is in
          let long = route_length subs routes c.args.sub at.0 w.in-Some.route c.recall_order.ensures.rising at.1 c.requires.routed is in
          omega (arith, ap (λ t. length (of_id t.id subs)) same, long, w.steps-is, w.remove_dest.ensures.cost)
      | in_default w ↦ omega (arith, w.steps-is)
    ]
