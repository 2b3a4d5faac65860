-- A new subscription: a route for its id, a destination there, and nothing of it that waits.
use Rattle.std.proofs.Common.{◌≡◌, ℕ, zero, suc, ◌+◌, ◌*◌, ◌<◌, ◌≤◌, ◌&&◌, ◌||◌, Bool, true, false, cond, eqb, ltb, List, [], ◌∷◌, ◌++◌, length, map, filter, find, count_by, sum_by, get_or, Option, Some, None, is_some, Result, Ok, Err, refl, ap, sym, ◌∙◌, subst, arith}
use Rattle.std.specs.List.{All, list_any}
use Rattle.std.specs.Option.{option_map}
use Rattle.std.specs.Result.{OnOk}
use Rattle.std.proofs.lemmas.Bool.{eqb-true, eq-eqb}
use Rattle.std.proofs.lemmas.Bool.Decides.{nat_tests}
use Rattle.std.proofs.lemmas.Result.{MatchResult-at_ok}
use Rattle.std.proofs.lemmas.List.{length-map, map_push, get_or-set_same, get_or-set_other}
use Rattle.std.proofs.lemmas.List.Elements.{All-nil, All-cons, All-head, All-tail, All-append, All-weaker, filter-append}
use Rattle.std.proofs.lemmas.List.Sums.{sum_by-cons, sum_by_push, length-filter}
use Rattle.std.proofs.Math.Nat.{mul-le-mul_right, suc-mul}
use Rattle.std.proofs.Math.Seq.{map-set_same}
use Rattle.fsw_base.proofs.Lists.{list_any-map, filter-map}
use Rattle.fsw_base.specs.declared.statuses.SbStatus.{SbStatus}
use Rattle.fsw_base.specs.declared.statuses.SbStatus.TheVariants.{MaxDestsMet}
use Rattle.bus_words.specs.Bus as bus
use Rattle.pipe_queue.specs.declared.item.Item.{Item}
use Rattle.bus_words.specs.Pipes.{PipeOf, pipe_at}
use Rattle.pipe_table.specs.Table.{Pipes}
use Rattle.subscriptions.specs.Subs.{LiveSubscription, Subscribed, number_of}
use Rattle.routing.specs.Dests.{Dest}
use Rattle.routing.specs.Routing.{Route, Routing, fresh_route, route_at, dests_at, route_from, route_of, with_dests}
use Rattle.bus_routes.specs.Rows.{Row, RouteRow, with_route}
use Rattle.bus_routes.specs.Inside.{row_in, sub_in, way_in, tables_in, of_id, waiting_at, IsCounted, IsOf, IsQueued, AreQueued, AreRouted, ties}
use Rattle.bus_routes.proofs.Readers.{way_there}
use Rattle.bus_routes.proofs.Routes.{found, route_from-set}

-- A route for the id. --

-- what is known once the id has a route
pub record Leads (subscribed : Subscribed) (old new : Routing) (id route : ℕ) : Type 0 where
  pub routed : AreRouted subscribed new
  pub way : route_of new.routes id ≡ Some route
  pub same : new ≡ record old { routes = new.routes }
  pub ways : map way_in new.routes ≡ with_route (map way_in old.routes) id

-- an id without a route has no subscriptions
none_of : (routes : List Route) (live : List LiveSubscription) (id : ℕ) → route_of routes id ≡ None → All (λ s. is_some (route_of routes s.id) ≡ true) live → filter (λ s. eqb s.id id) live ≡ []
none_of routes [] id none ways = refl
none_of routes (s ∷ live) id none ways =
    by_test (eqb s.id id) refl (none_of routes live id none (All-tail (λ t. is_some (route_of routes t.id) ≡ true) s live ways))
  where
    by_test : (b : Bool) → eqb s.id id ≡ b → filter (λ t. eqb t.id id) live ≡ [] → cond {A = List LiveSubscription} b (s ∷ filter (λ t. eqb t.id id) live) (filter (λ t. eqb t.id id) live) ≡ []
    by_test true test rest =
        let has : is_some (route_of routes s.id) ≡ true = All-head (λ t. is_some (route_of routes t.id) ≡ true) s live ways in
        let no : false ≡ true = sym (ap is_some (ap (route_of routes) (eqb-true s.id id test) ∙ none)) ∙ has in
        absurd (cc (no))
    by_test false test rest = rest

-- a fresh route stands last, and is found there if its id has no other
from_fresh : (number : ℕ) (routes : List Route) (id : ℕ) → route_from number routes id ≡ None → route_from number (routes ++ fresh_route id ∷ []) id ≡ Some (number + length routes)
from_fresh number [] id none = ap (λ b. cond {A = Option ℕ} b (Some number) None) (eq-eqb id id refl) ∙ ap Some (add_none number)
  where
    add_none : (n : ℕ) → n ≡ n + 0
    add_none n = omega arith
from_fresh number (r ∷ routes) id none = by_test (eqb r.id id) none (from_fresh (number + 1) routes id)
  where
    one_more : (n m : ℕ) → n + 1 + m ≡ n + suc m
    one_more n m = omega arith

    by_test : (b : Bool) → cond {A = Option ℕ} b (Some number) (route_from (number + 1) routes id) ≡ None →
        (route_from (number + 1) routes id ≡ None → route_from (number + 1) (routes ++ fresh_route id ∷ []) id ≡ Some (number + 1 + length routes)) →
        cond {A = Option ℕ} b (Some number) (route_from (number + 1) (routes ++ fresh_route id ∷ []) id) ≡ Some (number + suc (length routes))
    by_test true is ih = absurd (cc (is))
    by_test false is ih = ih is ∙ ap Some (one_more number (length routes))

-- other ids' routes stay where they stood, if they had one
from_other : (number : ℕ) (routes : List Route) (id other : ℕ) → (id ≡ other → ⊥) → route_from number (routes ++ fresh_route id ∷ []) other ≡ route_from number routes other
from_other number [] id other differ = ap (λ b. cond {A = Option ℕ} b (Some number) None) (no id other differ)
  where
    no : (a b : ℕ) → (a ≡ b → ⊥) → eqb a b ≡ false
    no a b apart = grind (arith, nat_tests)
from_other number (r ∷ routes) id other differ = ap (cond {A = Option ℕ} (eqb r.id other) (Some number)) (from_other (number + 1) routes id other differ)

-- a fresh route has no destinations, and neither has what stands past the end
dests_fresh : (routes : List Route) (id place : ℕ) → (get_or (routes ++ fresh_route id ∷ []) place (fresh_route 0)).dests ≡ (get_or routes place (fresh_route 0)).dests
dests_fresh [] id zero = refl
dests_fresh [] id (suc place) = refl
dests_fresh (r ∷ routes) id zero = refl
dests_fresh (r ∷ routes) id (suc place) = dests_fresh routes id place

dests_past : (routes : List Route) → (get_or routes (length routes) (fresh_route 0)).dests ≡ []
dests_past [] = refl
dests_past (r ∷ routes) = dests_past routes

-- a fresh route leads to no destination, and its id has no subscription
leads_fresh : (subscribed : Subscribed) (old : Routing) (id : ℕ) → AreRouted subscribed old → route_of old.routes id ≡ None →
    Leads subscribed old (record old { routes = old.routes ++ fresh_route id ∷ [] }) id (length old.routes)
leads_fresh subscribed old id routed none =
    let new : Routing = record old { routes = old.routes ++ fresh_route id ∷ [] } in
    record {
      routed = record {
        dests = λ other place is.
            ap (λ (dests : List Dest). map (λ dest. dest.1) dests) (dests_fresh old.routes id place) ∙ by_id other place is (eqb id other) refl;
        ways = All-weaker (λ s. is_some (route_of old.routes s.id) ≡ true) (λ s. is_some (route_of new.routes s.id) ≡ true) (λ s has. stays s.id has (eqb id s.id) refl) subscribed.live routed.ways;
        once = routed.once;
      };
      way = from_fresh 0 old.routes id none ∙ ap Some (none_more (length old.routes));
      same = refl;
      ways = map_push way_in old.routes (fresh_route id)
          ∙ ap (λ b. cond {A = List RouteRow} b (map way_in old.routes) (map way_in old.routes ++ record { id = id; counted = 0 } ∷ [])) (sym (sym (way_there old.routes id) ∙ ap is_some none));
    }
  where
    none_more : (n : ℕ) → 0 + n ≡ n
    none_more n = omega arith

    apart : (a b : ℕ) → eqb a b ≡ false → a ≡ b → ⊥
    apart a b is same = grind (arith, nat_tests)

    some_is : (a b : ℕ) → Some a ≡ Some b → a ≡ b
    some_is a b is = cc (is)

    by_id : (other place : ℕ) → route_of (old.routes ++ fresh_route id ∷ []) other ≡ Some place → (b : Bool) → eqb id other ≡ b →
        map (λ (dest : Dest). dest.1) (dests_at old place) ≡ map number_of (of_id other subscribed)
    by_id other place is true test =
        let here : id ≡ other = eqb-true id other test in
        let none_here : route_of old.routes other ≡ None = ap (route_of old.routes) (sym here) ∙ none in
        let last : place ≡ length old.routes =
        some_is place (length old.routes) (sym is ∙ ap (route_of (old.routes ++ fresh_route id ∷ [])) (sym here) ∙ from_fresh 0 old.routes id none ∙ ap Some (none_more (length old.routes))) in
        ap (λ n. map (λ (dest : Dest). dest.1) (dests_at old n)) last
        ∙ ap (λ (dests : List Dest). map (λ dest. dest.1) dests) (dests_past old.routes)
        ∙ ap (λ live. map number_of live) (sym (none_of old.routes subscribed.live other none_here routed.ways))
    by_id other place is false test = routed.dests other place (sym (from_other 0 old.routes id other (apart id other test)) ∙ is)

    stays : (other : ℕ) → is_some (route_of old.routes other) ≡ true → (b : Bool) → eqb id other ≡ b → is_some (route_of (old.routes ++ fresh_route id ∷ []) other) ≡ true
    stays other has true test = ap is_some (ap (route_of (old.routes ++ fresh_route id ∷ [])) (sym (eqb-true id other test)) ∙ from_fresh 0 old.routes id none)
    stays other has false test = ap is_some (from_other 0 old.routes id other (apart id other test)) ∙ has

-- a route that the id had already
leads_on : (subscribed : Subscribed) (old : Routing) (id route : ℕ) → AreRouted subscribed old → route_of old.routes id ≡ Some route → Leads subscribed old old id route
leads_on subscribed old id route routed is = record {
  routed = routed;
  way = is;
  same = refl;
  ways = ap (λ b. cond {A = List RouteRow} b (map way_in old.routes) (map way_in old.routes ++ record { id = id; counted = 0 } ∷ [])) (sym (sym (way_there old.routes id) ∙ ap is_some is));
}

-- either way the id has a route then
pub leads : (subscribed : Subscribed) (old new : Routing) (id route : ℕ) → AreRouted subscribed old →
    ((place : ℕ) → route_of old.routes id ≡ Some place → (route ≡ place) × (new ≡ old)) →
    (route_of old.routes id ≡ None → (route ≡ length old.routes) × (new ≡ record old { routes = old.routes ++ fresh_route id ∷ [] })) →
    Leads subscribed old new id route
leads subscribed old new id route routed had made = by_way (route_of old.routes id) refl
  where
    by_way : (o : Option ℕ) → route_of old.routes id ≡ o → Leads subscribed old new id route
    by_way (Some place) is =
        let P : Routing → ℕ → Type 0 = λ r n. Leads subscribed old r id n in
        subst (λ r. P r route) (sym (had place is).1) (subst (λ n. P old n) (sym (had place is).0) (leads_on subscribed old id place routed is))
    by_way None is =
        let P : Routing → ℕ → Type 0 = λ r n. Leads subscribed old r id n in
        subst (λ r. P r route) (sym (made is).1)
        (subst (λ n. P (record old { routes = old.routes ++ fresh_route id ∷ [] }) n) (sym (made is).0) (leads_fresh subscribed old id routed is))

-- A destination there. --

-- there is room for it
pub dests_few : (subscribed : Subscribed) (r : Routing) (id route : ℕ) → AreRouted subscribed r → route_of r.routes id ≡ Some route →
    length (dests_at r route) ≡ length (bus.route (map sub_in subscribed.live) id)
dests_few subscribed r id route routed way =
    sym (length-map (dests_at r route) (λ (dest : Dest). dest.1))
    ∙ ap length (routed.dests id route way)
    ∙ length-map (of_id id subscribed) number_of
    ∙ sym (length-map (of_id id subscribed) sub_in)
    ∙ ap length (sym (filter-map (λ (sub : bus.Subscription). eqb sub.id id) sub_in subscribed.live))

-- live subscriptions are no more than their ids' routes have
each_counted : (number : ℕ) (live : List LiveSubscription) (routes : List Route) → All (λ s. is_some (route_from number routes s.id) ≡ true) live →
    length live ≤ sum_by (λ r. count_by (λ s. eqb s.id r.id) live) routes
each_counted number [] routes all = omega arith
each_counted number (s ∷ live) routes all =
    let one : 1 ≤ sum_by (λ r. cond {A = ℕ} (eqb s.id r.id) 1 0) routes = has_one number routes (All-head (λ t. is_some (route_from number routes t.id) ≡ true) s live all) in
    let rest = each_counted number live routes (All-tail (λ t. is_some (route_from number routes t.id) ≡ true) s live all) in
    omega (arith, one, rest, both routes)
  where
    turned : (a b : ℕ) → eqb a b ≡ eqb b a
    turned a b = grind (arith, nat_tests)

    has_one : (number : ℕ) (routes : List Route) → is_some (route_from number routes s.id) ≡ true → 1 ≤ sum_by (λ r. cond {A = ℕ} (eqb s.id r.id) 1 0) routes
    has_one number [] none = absurd (cc (none))
    has_one number (r ∷ routes) some =
        by_test (eqb r.id s.id) some (has_one (number + 1) routes)
        (sum_by-cons (λ (q : Route). cond {A = ℕ} (eqb s.id q.id) 1 0) r routes ∙ ap (λ b. cond {A = ℕ} b 1 0 + sum_by (λ (q : Route). cond {A = ℕ} (eqb s.id q.id) 1 0) routes) (turned s.id r.id))
      where
        by_test : (b : Bool) → is_some (cond {A = Option ℕ} b (Some number) (route_from (number + 1) routes s.id)) ≡ true → (is_some (route_from (number + 1) routes s.id) ≡ true → 1 ≤ sum_by (λ (q : Route). cond {A = ℕ} (eqb s.id q.id) 1 0) routes) →
            sum_by (λ (q : Route). cond {A = ℕ} (eqb s.id q.id) 1 0) (r ∷ routes) ≡ cond {A = ℕ} b 1 0 + sum_by (λ (q : Route). cond {A = ℕ} (eqb s.id q.id) 1 0) routes → 1 ≤ sum_by (λ (q : Route). cond {A = ℕ} (eqb s.id q.id) 1 0) (r ∷ routes)
        by_test true is ih total = omega (arith, total)
        by_test false is ih total = omega (arith, total, ih is)

    both : (routes : List Route) → sum_by (λ r. count_by (λ t. eqb t.id r.id) (s ∷ live)) routes ≡ sum_by (λ r. cond {A = ℕ} (eqb s.id r.id) 1 0) routes + sum_by (λ r. count_by (λ t. eqb t.id r.id) live) routes
    both [] = refl
    both (r ∷ routes) =
        omega (
          arith,
          both routes,
          sum_by-cons (λ (q : Route). count_by (λ t. eqb t.id q.id) (s ∷ live)) r routes,
          sum_by-cons (λ (q : Route). cond {A = ℕ} (eqb s.id q.id) 1 0) r routes,
          sum_by-cons (λ (q : Route). count_by (λ t. eqb t.id q.id) live) r routes,
          sum_by-cons (λ (t : LiveSubscription). cond {A = ℕ} (eqb t.id r.id) 1 0) s live,
        )

-- a sum of terms that are at most a bound, one of them below it
sum_most : (f : Route → ℕ) (most : ℕ) (routes : List Route) → ((i : ℕ) → i < length routes → f (get_or routes i (fresh_route 0)) ≤ most) → sum_by f routes ≤ length routes * most
sum_most f most [] each = omega arith
sum_most f most (r ∷ routes) each =
    let one = each 0 (omega arith) in
    let rest = sum_most f most routes (λ i within. each (suc i) (omega (arith, within))) in
    omega (arith, one, rest, sum_by-cons f r routes, suc-mul (length routes) most)

sum_below : (f : Route → ℕ) (most : ℕ) (routes : List Route) (place : ℕ) → ((i : ℕ) → i < length routes → f (get_or routes i (fresh_route 0)) ≤ most) → place < length routes → f (get_or routes place (fresh_route 0)) < most → sum_by f routes < length routes * most
sum_below f most [] place each within less = absurd (omega (arith, within))
sum_below f most (r ∷ routes) zero each within less =
    let rest = sum_most f most routes (λ i inside. each (suc i) (omega (arith, inside))) in
    omega (arith, less, rest, sum_by-cons f r routes, suc-mul (length routes) most)
sum_below f most (r ∷ routes) (suc place) each within less =
    let one = each 0 (omega arith) in
    let rest = sum_below f most routes place (λ i inside. each (suc i) (omega (arith, inside))) (omega (arith, within)) less in
    omega (arith, one, rest, sum_by-cons f r routes, suc-mul (length routes) most)

-- there is room for one more if its route has room
pub room_left : (subscribed : Subscribed) (r : Routing) (id route : ℕ) → AreRouted subscribed r → route_of r.routes id ≡ Some route → length r.routes ≤ r.msgids → ((place : ℕ) → length (dests_at r place) ≤ r.dests) →
    length (dests_at r route) < r.dests → length subscribed.live < r.msgids * r.dests
room_left subscribed r id route routed way fit few less =
    let counted = each_counted 0 subscribed.live r.routes routed.ways in
    let below = sum_below (λ q. count_by (λ s. eqb s.id q.id) subscribed.live) r.dests r.routes route (λ i within. most i within) (found r id route way).within last in
    let wide = mul-le-mul_right r.dests fit in
    omega (arith, counted, below, wide)
  where
    as_many : (other place : ℕ) → route_of r.routes other ≡ Some place → count_by (λ s. eqb s.id other) subscribed.live ≡ length (dests_at r place)
    as_many other place is =
        sym (length-filter (λ s. eqb s.id other) subscribed.live)
        ∙ sym (length-map (of_id other subscribed) number_of)
        ∙ ap length (sym (routed.dests other place is))
        ∙ length-map (dests_at r place) (λ (dest : Dest). dest.1)

    some_place : (number : ℕ) (routes : List Route) (i : ℕ) → i < length routes → (place : ℕ) × (route_from number routes (get_or routes i (fresh_route 0)).id ≡ Some place)
    some_place number [] i within = absurd (omega (arith, within))
    some_place number (q ∷ routes) zero within = (number, ap (λ b. cond {A = Option ℕ} b (Some number) (route_from (number + 1) routes q.id)) (eq-eqb q.id q.id refl))
    some_place number (q ∷ routes) (suc i) within = by_test (eqb q.id (get_or routes i (fresh_route 0)).id) (some_place (number + 1) routes i (omega (arith, within)))
      where
        by_test : (b : Bool) → (place : ℕ) × (route_from (number + 1) routes (get_or routes i (fresh_route 0)).id ≡ Some place) →
            (place : ℕ) × (cond {A = Option ℕ} b (Some number) (route_from (number + 1) routes (get_or routes i (fresh_route 0)).id) ≡ Some place)
        by_test true rest = (number, refl)
        by_test false rest = rest

    most : (i : ℕ) → i < length r.routes → count_by (λ s. eqb s.id (get_or r.routes i (fresh_route 0)).id) subscribed.live ≤ r.dests
    most i within =
        let at = some_place 0 r.routes i within in
        omega (arith, as_many (get_or r.routes i (fresh_route 0)).id at.0 at.1, few at.0)

    last : count_by (λ s. eqb s.id (get_or r.routes route (fresh_route 0)).id) subscribed.live < r.dests
    last =
        let named : (route_at r route).id ≡ id = (found r id route way).named in
        omega (arith, ap (λ n. count_by (λ s. eqb s.id n) subscribed.live) named, as_many id route way, less)

-- so it is taken
pub taken : (P : Type 0) (n limit : ℕ) (r : Result (Unit {0}) SbStatus) → n < limit → r ≡ cond (ltb n limit) (Ok tt) (Err MaxDestsMet) → OnOk r P → P
taken P n limit r few is given = MatchResult-at_ok (λ u. P) (λ e. Unit {0}) tt (is ∙ ap (λ b. cond b (Ok tt) (Err MaxDestsMet)) (less n limit few)) given
  where
    less : (a b : ℕ) → a < b → ltb a b ≡ true
    less a b is = grind (arith, nat_tests)

none_and : (n : ℕ) → n ≡ 0 → 0 + n ≡ 0
none_and n is = omega (arith, is)

-- no subscription ties the id to the pipe, so one more is the only one
none_ties : (p : LiveSubscription → Bool) (live : List LiveSubscription) → list_any p live ≡ false → count_by p live ≡ 0
none_ties p [] none = refl
none_ties p (s ∷ live) none = sum_by-cons (λ t. cond {A = ℕ} (p t) 1 0) s live ∙ by_test (p s) none (none_ties p live)
  where
    by_test : (b : Bool) → (b || list_any p live) ≡ false → (list_any p live ≡ false → count_by p live ≡ 0) → cond {A = ℕ} b 1 0 + count_by p live ≡ 0
    by_test true is ih = absurd (cc (is))
    by_test false is ih = none_and (count_by p live) (ih is)

-- the id's destinations are its subscriptions again
pub routed_more : (subscribed : Subscribed) (r : Routing) (route node made : ℕ) (s : LiveSubscription) → AreRouted subscribed r → route_of r.routes s.id ≡ Some route →
    list_any (ties s.id s.pipe) subscribed.live ≡ false →
    AreRouted (record subscribed { made = made; live = subscribed.live ++ s ∷ [] }) (with_dests r route (dests_at r route ++ (node, number_of s) ∷ []))
routed_more subscribed r route node made s routed way none =
    let at = found r s.id route way in
    let dests = dests_at r route ++ (node, number_of s) ∷ [] in
    let x : Route = record (route_at r route) { dests = dests } in
    let next = with_dests r route dests in
    let same : (id : ℕ) → route_of next.routes id ≡ route_of r.routes id = λ id. route_from-set 0 r.routes route id x (fresh_route 0) refl in
    record {
      dests = λ id place is. by_id id place (sym (same id) ∙ is) (eqb s.id id) refl;
      ways = All-append (λ t. is_some (route_of next.routes t.id) ≡ true) subscribed.live (s ∷ [])
          (All-weaker (λ t. is_some (route_of r.routes t.id) ≡ true) (λ t. is_some (route_of next.routes t.id) ≡ true) (λ t has. ap is_some (same t.id) ∙ has) subscribed.live routed.ways)
          (All-cons (λ t. is_some (route_of next.routes t.id) ≡ true) s [] (ap is_some (same s.id ∙ way)) (All-nil (λ t. is_some (route_of next.routes t.id) ≡ true)));
      once = λ id pipe.
          let more = sum_by_push (λ t. cond {A = ℕ} (ties id pipe t) 1 0) subscribed.live s in
          by_pair id pipe (eqb s.id id) (eqb s.pipe pipe) refl refl more;
    }
  where
    some_is : (a b : ℕ) → Some a ≡ Some b → a ≡ b
    some_is a b is = cc (is)

    by_id : (id place : ℕ) → route_of r.routes id ≡ Some place → (b : Bool) → eqb s.id id ≡ b →
        map (λ (dest : Dest). dest.1) (dests_at (with_dests r route (dests_at r route ++ (node, number_of s) ∷ [])) place) ≡ map number_of (filter (λ t. eqb t.id id) (subscribed.live ++ s ∷ []))
    by_id id place is true test =
        let here : s.id ≡ id = eqb-true s.id id test in
        let there : place ≡ route = some_is place route (sym is ∙ ap (route_of r.routes) (sym here) ∙ way) in
        let dests = dests_at r route ++ (node, number_of s) ∷ [] in
        let x : Route = record (route_at r route) { dests = dests } in
        ap (λ n. map (λ (dest : Dest). dest.1) (dests_at (with_dests r route dests) n)) there
        ∙ ap (λ (t : Route). map (λ (dest : Dest). dest.1) t.dests) (get_or-set_same r.routes route x (fresh_route 0) (found r s.id route way).within)
        ∙ map_push (λ (dest : Dest). dest.1) (dests_at r route) (node, number_of s)
        ∙ ap (λ l. l ++ number_of s ∷ []) (ap (λ n. map (λ (dest : Dest). dest.1) (dests_at r n)) (sym there) ∙ routed.dests id place is)
        ∙ sym (map_push number_of (of_id id subscribed) s)
        ∙ ap (λ b. map number_of (of_id id subscribed ++ cond {A = List LiveSubscription} b (s ∷ []) [])) (sym test)
        ∙ ap (map number_of) (sym (filter-append (λ t. eqb t.id id) subscribed.live (s ∷ [])))
    by_id id place is false test =
        let dests = dests_at r route ++ (node, number_of s) ∷ [] in
        let x : Route = record (route_at r route) { dests = dests } in
        ap (λ (t : Route). map (λ (dest : Dest). dest.1) t.dests) (get_or-set_other r.routes route place x (fresh_route 0) (elsewhere id place is test))
        ∙ routed.dests id place is
        ∙ ap (map number_of) (drop_none (of_id id subscribed))
        ∙ ap (λ b. map number_of (of_id id subscribed ++ cond {A = List LiveSubscription} b (s ∷ []) [])) (sym test)
        ∙ ap (map number_of) (sym (filter-append (λ t. eqb t.id id) subscribed.live (s ∷ [])))
      where
        drop_none : (l : List LiveSubscription) → l ≡ l ++ []
        drop_none [] = refl
        drop_none (t ∷ l) = ap (λ rest. t ∷ rest) (drop_none l)

        elsewhere : (id place : ℕ) → route_of r.routes id ≡ Some place → eqb s.id id ≡ false → place ≡ route → ⊥
        elsewhere id place is test same =
            let one : s.id ≡ id = sym (found r s.id route way).named ∙ ap (λ n. (route_at r n).id) (sym same) ∙ (found r id place is).named in
            apart s.id id test one
          where
            apart : (a b : ℕ) → eqb a b ≡ false → a ≡ b → ⊥
            apart a b is same = grind (arith, nat_tests)

    by_pair : (id pipe : ℕ) (b c : Bool) → eqb s.id id ≡ b → eqb s.pipe pipe ≡ c →
        count_by (ties id pipe) (subscribed.live ++ s ∷ []) ≡ count_by (ties id pipe) subscribed.live + cond {A = ℕ} (ties id pipe s) 1 0 → count_by (ties id pipe) (subscribed.live ++ s ∷ []) ≤ 1
    by_pair id pipe true true one two more =
        let here : s.id ≡ id = eqb-true s.id id one in
        let there : s.pipe ≡ pipe = eqb-true s.pipe pipe two in
        let nothing = none_ties (ties s.id s.pipe) subscribed.live none in
        let before : count_by (ties id pipe) subscribed.live ≡ 0 = subst (λ n. count_by (ties n pipe) subscribed.live ≡ 0) here (subst (λ n. count_by (ties s.id n) subscribed.live ≡ 0) there nothing) in
        let one_or_none = at_most (ties id pipe s) in
        omega (arith, more, before, one_or_none)
      where
        at_most : (b : Bool) → cond {A = ℕ} b 1 0 ≤ 1
        at_most true = omega arith
        at_most false = omega arith
    by_pair id pipe true false one two more =
        let other : ties id pipe s ≡ false = ap (λ b. b && eqb s.pipe pipe) one ∙ two in
        let as_before = ap (λ b. cond {A = ℕ} b 1 0) other in
        omega (arith, more, as_before, routed.once id pipe)
    by_pair id pipe false c one two more =
        let other : ties id pipe s ≡ false = ap (λ b. b && eqb s.pipe pipe) one in
        let as_before = ap (λ b. cond {A = ℕ} b 1 0) other in
        omega (arith, more, as_before, routed.once id pipe)

-- Nothing of it waits. --

-- what is found among rows that all have a property has it
found_has : (P : PipeOf Item → Type 0) (p : PipeOf Item → Bool) (rows : List (PipeOf Item)) (row : PipeOf Item) → All P rows → find p rows ≡ Some row → P row
found_has P p [] row all is = absurd (cc (is))
found_has P p (r ∷ rows) row all is = by_test (p r) is (found_has P p rows row (All-tail P r rows all))
  where
    by_test : (b : Bool) → cond {A = Option (PipeOf Item)} b (Some r) (find p rows) ≡ Some row → (find p rows ≡ Some row → P row) → P row
    by_test true here ih =
        let same : r ≡ row = cc (here) in
        subst P same (All-head P r rows all)
    by_test false there ih = ih there

-- a number that no item on a pipe has
none_waits : (subscribed : Subscribed) (pipe number : ℕ) (queue : List Item) → subscribed.made < number → All (IsQueued subscribed pipe) queue → count_by (λ item. eqb item.sub.number number) queue ≡ 0
none_waits subscribed pipe number [] above all = refl
none_waits subscribed pipe number (item ∷ queue) above all =
    sum_by-cons (λ (i : Item). cond {A = ℕ} (eqb i.sub.number number) 1 0) item queue
    ∙ ap (λ b. cond {A = ℕ} b 1 0 + count_by (λ i. eqb i.sub.number number) queue) (other item.sub.number number (omega (arith, above, (All-head (IsQueued subscribed pipe) item queue all).made)))
    ∙ none_and (count_by (λ (i : Item). eqb i.sub.number number) queue) (none_waits subscribed pipe number queue above (All-tail (IsQueued subscribed pipe) item queue all))
  where
    other : (a b : ℕ) → a < b → eqb a b ≡ false
    other a b less = grind (arith, nat_tests)

-- what waits stays counted if a subscription is made of which nothing waits
pub queued_more : (rows : List (PipeOf Item)) (subscribed : Subscribed) (s : LiveSubscription) → AreQueued rows subscribed → is_some (pipe_at rows s.pipe) ≡ true →
    s.number ≡ subscribed.made + 1 → s.waiting ≡ 0 → AreQueued rows (record subscribed { made = s.number; live = subscribed.live ++ s ∷ [] })
queued_more rows subscribed s queued live number nothing =
    let Are : Subscribed → PipeOf Item → Type 0 = λ b row. All (IsQueued b row.number) row.queue in
    let next : Subscribed = record subscribed { made = s.number; live = subscribed.live ++ s ∷ [] } in
    record {
      counted = All-append (IsCounted rows) subscribed.live (s ∷ []) queued.counted (All-cons (IsCounted rows) s [] (by_row (pipe_at rows s.pipe) refl live) (All-nil (IsCounted rows)));
      items = All-weaker (Are subscribed) (Are next) (λ row are. All-weaker (IsQueued subscribed row.number) (IsQueued next row.number) (each row.number) row.queue are) rows queued.items;
    }
  where
    by_row : (o : Option (PipeOf Item)) → pipe_at rows s.pipe ≡ o → is_some o ≡ true → option_map (λ row. waiting_at row s.number) (pipe_at rows s.pipe) ≡ Some s.waiting
    by_row None is some = absurd (cc (some))
    by_row (Some row) is some =
        let are : All (IsQueued subscribed row.number) row.queue = found_has (λ r. All (IsQueued subscribed r.number) r.queue) (λ r. eqb r.number s.pipe) rows row queued.items is in
        ap (λ o. option_map {U = ℕ} (λ r. waiting_at r s.number) o) is
        ∙ ap Some (none_waits subscribed row.number s.number row.queue (omega (arith, number)) are ∙ sym nothing)

    each : (pipe : ℕ) (item : Item) → IsQueued subscribed pipe item → IsQueued (record subscribed { made = s.number; live = subscribed.live ++ s ∷ [] }) pipe item
    each pipe item is = record {
      made = omega (arith, is.made, number);
      own = All-append (IsOf pipe item) subscribed.live (s ∷ []) is.own
          (All-cons (IsOf pipe item) s [] (λ same. absurd (omega (arith, same, number, is.made))) (All-nil (IsOf pipe item)));
    }

-- a live pipe is found
pub live_found : (rows : List (PipeOf Item)) (pipe : ℕ) → list_any (λ (row : Row). eqb row.number pipe) (map row_in rows) ≡ true → is_some (pipe_at rows pipe) ≡ true
live_found rows pipe live = sym (any_some rows) ∙ (sym (list_any-map (λ (row : Row). eqb row.number pipe) row_in rows) ∙ live)
  where
    any_some : (rs : List (PipeOf Item)) → list_any (λ row. eqb row.number pipe) rs ≡ is_some (pipe_at rs pipe)
    any_some [] = refl
    any_some (r ∷ rs) = by_test (eqb r.number pipe) (any_some rs)
      where
        by_test : (b : Bool) → list_any (λ row. eqb row.number pipe) rs ≡ is_some (pipe_at rs pipe) →
            (b || list_any (λ row. eqb row.number pipe) rs) ≡ is_some (cond {A = Option (PipeOf Item)} b (Some r) (pipe_at rs pipe))
        by_test true ih = refl
        by_test false ih = ih

-- a pair that contracts see no subscription of is tied by none
pub none_tied : (live : List LiveSubscription) (id pipe : ℕ) → bus.is_subscribed (map sub_in live) id pipe ≡ false → list_any (ties id pipe) live ≡ false
none_tied live id pipe none = sym (list_any-map (λ (sub : bus.Subscription). eqb sub.id id && eqb sub.pipe pipe) sub_in live) ∙ none

-- what contracts see then
pub seen_more : (pipes : Pipes) (subscribed : Subscribed) (old new : Routing) (route node : ℕ) (s : LiveSubscription) → Leads subscribed old new s.id route → s.number ≡ subscribed.made + 1 →
    tables_in pipes (record subscribed { made = s.number; live = subscribed.live ++ s ∷ [] }) (with_dests new route (dests_at new route ++ (node, number_of s) ∷ []))
    ≡ record (tables_in pipes subscribed old) {
      subscriptions = map sub_in subscribed.live ++ record { number = subscribed.made + 1; id = s.id; pipe = s.pipe; limit = s.limit; scope = s.scope } ∷ [];
      subscriptions_made = subscribed.made + 1;
      routes = with_route (map way_in old.routes) s.id;
    }
seen_more pipes subscribed old new route node s lead number =
    let next : Subscribed = record subscribed { made = s.number; live = subscribed.live ++ s ∷ [] } in
    let x : Route = record (route_at new route) { dests = dests_at new route ++ (node, number_of s) ∷ [] } in
    ap (λ (ways : List RouteRow). record (tables_in pipes next new) { routes = ways }) (map-set_same way_in new.routes route x (fresh_route 0) refl ∙ lead.ways)
    ∙ ap (λ (r : Routing). record (tables_in pipes next r) { routes = with_route (map way_in old.routes) s.id }) lead.same
    ∙ ap (λ (l : List bus.Subscription). record (tables_in pipes next old) { subscriptions = l; routes = with_route (map way_in old.routes) s.id }) (map_push sub_in subscribed.live s)
    ∙ ap (λ (n : ℕ). record (tables_in pipes subscribed old) {
      subscriptions = map sub_in subscribed.live ++ record { number = n; id = s.id; pipe = s.pipe; limit = s.limit; scope = s.scope } ∷ [];
      subscriptions_made = n;
      routes = with_route (map way_in old.routes) s.id;
    }) number
