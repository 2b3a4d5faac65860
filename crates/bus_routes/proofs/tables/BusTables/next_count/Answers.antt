use Rattle.std.proofs.Common.{◌+◌, ◌%◌, ◌≡◌, List, Some, ap, sym, ◌∙◌, subst}
use Rattle.fsw_base.specs.Starts.{start_of}
use Rattle.routing.specs.Routing.{Routing, route_at}
use Rattle.bus_routes.specs.Rows.{RouteRow, counted_in, counted_on, way_of}
use Rattle.bus_routes.specs.Tables.{Tables}
use Rattle.bus_routes.specs.Inside.{tables_in, AreTied}
use Rattle.bus_routes.specs.contracts.tables.BusTables.{the_view}
use Rattle.bus_routes.specs.declared.tables.BusTables.TheInside.{Inside}
use Rattle.bus_routes.specs.declared.route_no.RouteNo.{RouteNo}
use Rattle.bus_routes.proofs.Readers.{place_there}
use Rattle.bus_routes.proofs.Routes.{IsRouteOf, found, routed_counted}
use Rattle.bus_routes.proofs.tables.BusTables.next_count.Goals as goal

-- where the route stands
there : (s : Inside) (now : Tables) (way : RouteNo) → the_view s ≡ now → way_of now.routes way.id ≡ Some way.place → IsRouteOf s.routes way.id way.place
there s now way is stands =
    found s.routes way.id way.place
    (sym (place_there 0 s.routes.routes way.id)
    ∙ ap (λ (t : Tables). way_of t.routes way.id) is
    ∙ stands)

pub next_count-requires : goal.next_count-requires
next_count-requires c =
    let s = c.self.inside in
    (there s c.args.self.now c.args.way c.self.view_is c.requires).within

pub invariant_of-self : goal.invariant_of-self
invariant_of-self c =
    let s = c.self.inside in
    let P : Routing → Type 0 = λ r. AreTied s.pipes s.subs r in
    subst P (sym c.next_count.ensures.after) (record {
      queued = c.self.invariant.queued;
      placed = c.self.invariant.placed;
      routed = routed_counted s.subs s.routes c.args.way.place c.self.invariant.routed;
      room = c.self.invariant.room;
    })

pub returns-clause-count : goal.returns-clause-count
returns-clause-count c =
    let s = c.self.inside in
    let at = there s c.args.self.now c.args.way c.self.view_is c.requires in
    c.next_count.ensures.count
    ∙ ap (λ id. (start_of s.routes.starts id + (route_at s.routes c.args.way.place).counted + 1) % 16384) at.named
    ∙ ap (λ n. (start_of s.routes.starts c.args.way.id + n + 1) % 16384) (sym at.counted)
    ∙ ap (λ (t : Tables). (start_of t.room.starts c.args.way.id + counted_in t.routes c.args.way.id + 1) % 16384) c.self.view_is

pub returns-clause-after : goal.returns-clause-after
returns-clause-after c =
    let s = c.self.inside in
    let at = there s c.args.self.now c.args.way c.self.view_is c.requires in
    let F : Tables → Tables = λ t. record t { routes = counted_on t.routes c.args.way.id } in
    ap (λ (r : Routing). tables_in s.pipes s.subs r) c.next_count.ensures.after
    ∙ ap (λ (routes : List RouteRow). record (tables_in s.pipes s.subs s.routes) { routes = routes }) at.on
    ∙ ap F c.self.view_is
