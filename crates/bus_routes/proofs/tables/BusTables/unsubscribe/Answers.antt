-- At most one subscription ties the id to the pipe, so the end of the one that is found leaves just those that don't.
use Rattle.std.proofs.Common.{◌*◌, ◌≡◌, not, ◌&&◌, eqb, length, map, filter, find, is_some, refl, ap, sym, subst, ◌∙◌, arith}
use Rattle.bus_words.specs.Bus.{is_subscribed, route}
use Rattle.routing.specs.Routing.{Routing}
use Rattle.subscriptions.specs.Subs.{Subscribed}
use Rattle.bus_routes.specs.Tables.{Tables}
use Rattle.bus_routes.specs.Inside.{AreQueued, ArePlaced, of_id, sub_in, ties}
use Rattle.bus_routes.proofs.EndingsLists.{found_passes}
use Rattle.bus_routes.proofs.PipePlaces.{placed_left}
use Rattle.bus_routes.proofs.Ties.{tied_one, tied_live, without_tied, none_tied, tied_id, subscribed_seen, route_seen, queued_left, seen_left}
use Rattle.bus_routes.proofs.tables.BusTables.unsubscribe.Goals as goal

pub end_subscription-requires-clause-live : goal.end_subscription-requires-clause-live
end_subscription-requires-clause-live g c =
    let subs = c.self.inside.subs in
    let one = tied_one (find (ties c.args.id c.args.pipe) subs.live) c.in-Some.sub (sym c.first_of.ensures.first ∙ c.in-Some.is) in
    ap is_some (tied_live subs c.args.id c.args.pipe c.in-Some.sub one.0 c.recall_order.ensures.rising one.1 one.2)

pub invariant_of-self : goal.invariant_of-self
invariant_of-self g c = record {
  queued =
      subst (AreQueued c.self.inside.pipes.live) (sym c.end_subscription.ensures.after)
      (queued_left c.self.inside.pipes.live c.self.inside.subs (λ s. not (eqb s.number c.in-Some.sub.number)) c.self.invariant.queued);
  placed =
      subst (ArePlaced c.self.inside.pipes.places) (sym c.end_subscription.ensures.after)
      (placed_left c.self.inside.pipes.places c.self.inside.subs (λ s. not (eqb s.number c.in-Some.sub.number)) c.self.invariant.placed);
  routed = c.end_subscription.ensures.routed;
  room =
      ap (λ (s : Subscribed). s.room) c.end_subscription.ensures.after ∙ c.self.invariant.room
      ∙ sym (ap (λ (r : Routing). r.msgids * r.dests) c.end_subscription.ensures.same);
}

pub returns-in-Some-clause-there : goal.returns-in-Some-clause-there
returns-in-Some-clause-there g c =
    ap is_some (sym c.in-Some.is ∙ c.first_of.ensures.first)
    ∙ subscribed_seen c.self.inside.subs c.args.id c.args.pipe
    ∙ ap (λ t. is_subscribed t.subscriptions c.args.id c.args.pipe) c.self.view_is

pub returns-in-Some-clause-after : goal.returns-in-Some-clause-after
returns-in-Some-clause-after g c =
    let in_tables = c.self.inside in
    let subs = in_tables.subs in
    let now = c.args.self.now in
    let one = tied_one (find (ties c.args.id c.args.pipe) subs.live) c.in-Some.sub (sym c.first_of.ensures.first ∙ c.in-Some.is) in
    let live = tied_live subs c.args.id c.args.pipe c.in-Some.sub one.0 c.recall_order.ensures.rising one.1 one.2 in
    seen_left in_tables.pipes in_tables.pipes subs c.end_subscription.new.subs in_tables.routes c.end_subscription.new.routes now now.pipes
    (filter (λ sub. not (eqb sub.id c.args.id && eqb sub.pipe c.args.pipe)) now.subscriptions) c.self.view_is
    refl (ap (λ t. t.pipes) c.self.view_is)
    (c.end_subscription.ensures.after ∙ ap (λ s. let v : Subscribed = record subs { live = s.live } in v) (sym c.end_subscription.ensures.after))
    (ap (λ s. map sub_in s.live) c.end_subscription.ensures.after
    ∙ without_tied subs c.args.id c.args.pipe c.in-Some.sub one.0 c.recall_order.ensures.rising one.1 live (c.self.invariant.routed.once c.args.id c.args.pipe)
    ∙ ap (λ t. filter (λ sub. not (eqb sub.id c.args.id && eqb sub.pipe c.args.pipe)) t.subscriptions) c.self.view_is)
    c.end_subscription.ensures.same c.end_subscription.ensures.ways

pub returns-in-Some-clause-cost : goal.returns-in-Some-clause-cost
returns-in-Some-clause-cost g c =
    let subs = c.self.inside.subs in
    let one = tied_one (find (ties c.args.id c.args.pipe) subs.live) c.in-Some.sub (sym c.first_of.ensures.first ∙ c.in-Some.is) in
    let live = tied_live subs c.args.id c.args.pipe c.in-Some.sub one.0 c.recall_order.ensures.rising one.1 one.2 in
    let same = tied_id c.args.id c.args.pipe one.0 (found_passes (ties c.args.id c.args.pipe) subs.live one.0 one.1) in
    omega (arith, c.first_of.ensures.cost, c.end_subscription.ensures.cost one.0 live, ap (λ id. length (of_id id subs)) same, route_seen subs c.args.id, ap (λ t. length (route t.subscriptions c.args.id)) c.self.view_is)

pub returns-in_default-clause-there : goal.returns-in_default-clause-there
returns-in_default-clause-there g c =
    ap is_some (sym c.in_default.is ∙ c.first_of.ensures.first)
    ∙ subscribed_seen c.self.inside.subs c.args.id c.args.pipe
    ∙ ap (λ t. is_subscribed t.subscriptions c.args.id c.args.pipe) c.self.view_is

pub returns-in_default-clause-after : goal.returns-in_default-clause-after
returns-in_default-clause-after g c =
    let subs = c.self.inside.subs in
    let now = c.args.self.now in
    let same = none_tied subs c.args.id c.args.pipe (sym c.first_of.ensures.first ∙ c.in_default.is) in
    let all = subst (λ t. t.subscriptions ≡ filter (λ sub. not (eqb sub.id c.args.id && eqb sub.pipe c.args.pipe)) t.subscriptions) c.self.view_is same in
    ap (λ l. let v : Tables = record now { subscriptions = l } in v) all

pub returns-in_default-clause-cost : goal.returns-in_default-clause-cost
returns-in_default-clause-cost g c =
    omega (arith, c.first_of.ensures.cost, route_seen c.self.inside.subs c.args.id, ap (λ t. length (route t.subscriptions c.args.id)) c.self.view_is)
