use Rattle.std.proofs.Common.{◌≡◌, ℕ, ◌+◌, ◌*◌, ◌<◌, ◌++◌, ◌∷◌, [], false, true, eqb, length, map, is_some, Option, ap, sym, ◌∙◌, subst, refl, arith}
use Rattle.std.specs.List.{list_any}
use Rattle.std.proofs.lemmas.List.{length-map}
use Rattle.bus_words.specs.Bus as bus
use Rattle.std.specs.Option.{IsSome}
use Rattle.std.proofs.lemmas.List.Elements.{All-nil, All-cons, All-append}
use Rattle.subscriptions.specs.Subs.{LiveSubscription, Subscribed}
use Rattle.routing.specs.Dests.{last_node}
use Rattle.routing.specs.Routing.{Routing, dests_at, with_dests}
use Rattle.bus_routes.specs.Rows.{Row, has_way, with_route}
use Rattle.bus_routes.specs.Tables.{Tables}
use Rattle.bus_routes.specs.Inside.{way_in, tables_in, IsPlaced, AreTied}
use Rattle.bus_routes.proofs.PipePlaces.{place_there}
use Rattle.bus_routes.proofs.Readers.{way_there}
use Rattle.bus_routes.proofs.Routes.{found}
use Rattle.bus_routes.proofs.NewSubscriptions.{leads, dests_few, room_left, taken, routed_more, queued_more, live_found, none_tied, seen_more}
use Rattle.bus_routes.proofs.tables.BusTables.subscribe.Goals as goal

pub unwrap-place-requires : goal.unwrap-place-requires
unwrap-place-requires g c =
    let s = c.self.inside in
    let Live : Tables → Type 0 = λ t. list_any (λ (row : Row). eqb row.number c.args.pipe) t.pipes ≡ true in
    let live = live_found s.pipes.live c.args.pipe (subst Live (sym c.self.view_is) c.requires.live) in
    subst (λ (o : Option ℕ). IsSome o) (sym c.place_of.ensures) (place_there s.pipes.places s.pipes.live c.args.pipe c.recall_order.ensures.places live)

pub add-sub-requires-clause-room : goal.add-sub-requires-clause-room
add-sub-requires-clause-room g c =
    let s = c.self.inside in
    let made = c.route_for-route in
    let lead = leads s.subs s.routes made.new.routes c.args.id made.result c.self.invariant.routed made.ensures.old made.ensures.new in
    let Few : Tables → Type 0 = λ t. length (bus.route t.subscriptions c.args.id) < t.room.dests in
    let few : length (dests_at made.new.routes made.result) < made.new.routes.dests =
    omega (arith, dests_few s.subs made.new.routes c.args.id made.result lead.routed lead.way, subst Few (sym c.self.view_is) c.requires.dests, ap (λ (r : Routing). r.dests) lead.same) in
    let left = room_left s.subs made.new.routes c.args.id made.result lead.routed lead.way c.recall_routes.ensures.fit c.recall_routes.ensures.few few in
    omega (arith, left, c.self.invariant.room, ap (λ (r : Routing). r.msgids * r.dests) lead.same)

pub route_for-route-requires-clause-room : goal.route_for-route-requires-clause-room
route_for-route-requires-clause-room g c = λ none.
    let s = c.self.inside in
    let no : has_way (map way_in s.routes.routes) c.args.id ≡ false = sym (way_there s.routes.routes c.args.id) ∙ ap is_some none in
    let P : Tables → Type 0 = λ t. has_way t.routes c.args.id ≡ false → length t.routes < t.room.msgids in
    let few : length (map way_in s.routes.routes) < s.routes.msgids = subst P (sym c.self.view_is) c.requires.way no in
    omega (arith, few, length-map s.routes.routes way_in)

pub add_dest-requires : goal.add_dest-requires
add_dest-requires g c =
    let s = c.self.inside in
    let made = c.route_for-route in
    let lead = leads s.subs s.routes made.new.routes c.args.id made.result c.self.invariant.routed made.ensures.old made.ensures.new in
    (found made.new.routes c.args.id made.result lead.way).within

pub invariant_of-self : goal.invariant_of-self
invariant_of-self g c =
    let s = c.self.inside in
    let made = c.route_for-route in
    let sub : LiveSubscription = record { slot = c.add-sub.result.slot; number = c.add-sub.result.number; id = c.args.id; pipe = c.args.pipe; place = c.unwrap-place.result; limit = c.args.limit; scope = c.args.scope; waiting = 0 } in
    let lead = leads s.subs s.routes made.new.routes c.args.id made.result c.self.invariant.routed made.ensures.old made.ensures.new in
    let node = last_node (dests_at c.add_dest.new.self made.result) in
    let after : Routing = with_dests made.new.routes made.result (dests_at made.new.routes made.result ++ (node, c.add-sub.result) ∷ []) in
    let Few : Tables → Type 0 = λ t. length (bus.route t.subscriptions c.args.id) < t.room.dests in
    let few : length (dests_at made.new.routes made.result) < made.new.routes.dests =
    omega (arith, dests_few s.subs made.new.routes c.args.id made.result lead.routed lead.way, subst Few (sym c.self.view_is) c.requires.dests, ap (λ (r : Routing). r.dests) lead.same) in
    let next : c.add_dest.new.self ≡ after =
    taken (c.add_dest.new.self ≡ after) (length (dests_at made.new.routes made.result)) made.new.routes.dests c.add_dest.result few c.add_dest.ensures.answer c.add_dest.ensures.ok in
    let Live : Tables → Type 0 = λ t. list_any (λ (row : Row). eqb row.number c.args.pipe) t.pipes ≡ true in
    let live = live_found s.pipes.live c.args.pipe (subst Live (sym c.self.view_is) c.requires.live) in
    let None : Tables → Type 0 = λ t. bus.is_subscribed t.subscriptions c.args.id c.args.pipe ≡ false in
    let none = none_tied s.subs.live c.args.id c.args.pipe (subst None (sym c.self.view_is) c.requires.new) in
    let P : Subscribed → Type 0 = λ b. AreTied s.pipes b c.add_dest.new.self in
    let Q : Routing → Type 0 = λ r. AreTied s.pipes (record s.subs { made = c.add-sub.result.number; live = s.subs.live ++ sub ∷ [] }) r in
    subst P (sym c.add-sub.ensures.after) (subst Q (sym next) (record {
      queued = queued_more s.pipes.live s.subs sub c.self.invariant.queued live c.add-sub.ensures.number refl;
      placed =
          All-append (IsPlaced s.pipes.places) s.subs.live (sub ∷ []) c.self.invariant.placed
          (All-cons (IsPlaced s.pipes.places) sub [] (sym c.place_of.ensures ∙ c.unwrap-place.ensures) (All-nil (IsPlaced s.pipes.places)));
      routed = routed_more s.subs made.new.routes made.result node c.add-sub.result.number sub lead.routed lead.way none;
      room = c.self.invariant.room ∙ sym (ap (λ (r : Routing). r.msgids * r.dests) lead.same);
    }))

pub returns-clause-after : goal.returns-clause-after
returns-clause-after g c =
    let s = c.self.inside in
    let made = c.route_for-route in
    let sub : LiveSubscription = record { slot = c.add-sub.result.slot; number = c.add-sub.result.number; id = c.args.id; pipe = c.args.pipe; place = c.unwrap-place.result; limit = c.args.limit; scope = c.args.scope; waiting = 0 } in
    let lead = leads s.subs s.routes made.new.routes c.args.id made.result c.self.invariant.routed made.ensures.old made.ensures.new in
    let node = last_node (dests_at c.add_dest.new.self made.result) in
    let after : Routing = with_dests made.new.routes made.result (dests_at made.new.routes made.result ++ (node, c.add-sub.result) ∷ []) in
    let Few : Tables → Type 0 = λ t. length (bus.route t.subscriptions c.args.id) < t.room.dests in
    let few : length (dests_at made.new.routes made.result) < made.new.routes.dests =
    omega (arith, dests_few s.subs made.new.routes c.args.id made.result lead.routed lead.way, subst Few (sym c.self.view_is) c.requires.dests, ap (λ (r : Routing). r.dests) lead.same) in
    let next : c.add_dest.new.self ≡ after =
    taken (c.add_dest.new.self ≡ after) (length (dests_at made.new.routes made.result)) made.new.routes.dests c.add_dest.result few c.add_dest.ensures.answer c.add_dest.ensures.ok in
    let F : Tables → Tables = λ t. record t {
      subscriptions = t.subscriptions ++ record { number = t.subscriptions_made + 1; id = c.args.id; pipe = c.args.pipe; limit = c.args.limit; scope = c.args.scope } ∷ [];
      subscriptions_made = t.subscriptions_made + 1;
      routes = with_route t.routes c.args.id;
    } in
    ap (λ (b : Subscribed). tables_in s.pipes b c.add_dest.new.self) c.add-sub.ensures.after
    ∙ ap (λ (r : Routing). tables_in s.pipes (record s.subs { made = c.add-sub.result.number; live = s.subs.live ++ sub ∷ [] }) r) next
    ∙ seen_more s.pipes s.subs s.routes made.new.routes made.result node sub lead c.add-sub.ensures.number
    ∙ ap F c.self.view_is
