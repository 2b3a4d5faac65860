-- The route of an id: where it stands, and what a change of it leaves.
use Rattle.std.proofs.Common.{◌≡◌, ℕ, zero, suc, ◌+◌, ◌<◌, Bool, true, false, cond, eqb, List, [], ◌∷◌, length, map, find, set, get_or, Option, Some, is_some, refl, ap, sym, ◌∙◌, subst, arith}
use Rattle.std.specs.Option.{IsSome, option_map_or}
use Rattle.std.proofs.lemmas.Bool.{eqb-true}
use Rattle.std.proofs.lemmas.List.Elements.{All-weaker}
use Rattle.subscriptions.specs.Subs.{Subscribed}
use Rattle.routing.specs.Dests.{Dest}
use Rattle.routing.specs.Routing as routing
use Rattle.routing.specs.Routing.{Route, Routing, fresh_route, route_at, dests_at, route_from, route_of, with_route}
use Rattle.bus_routes.specs.Rows.{RouteRow, has_way, counted_in, counted_on}
use Rattle.bus_routes.specs.Inside.{way_in, AreRouted}
use Rattle.bus_routes.proofs.Readers.{way_there}

-- Where it stands. --

-- the id's route stands in this place, if routes are numbered on from a number
pub record StandsAt (number : ℕ) (routes : List Route) (id route : ℕ) : Type 0 where
  pub place : ℕ
  pub is : route ≡ number + place
  pub within : place < length routes
  pub named : (get_or routes place (fresh_route 0)).id ≡ id
  pub counted : counted_in (map way_in routes) id ≡ (get_or routes place (fresh_route 0)).counted
  pub on : map way_in (set routes place (routing.counted_on (get_or routes place (fresh_route 0)))) ≡ counted_on (map way_in routes) id

some_is : (a b : ℕ) → Some a ≡ Some b → a ≡ b
some_is a b is = cc (is)

-- the number that is found is that of such a place
pub found_from : (number : ℕ) (routes : List Route) (id route : ℕ) → route_from number routes id ≡ Some route → StandsAt number routes id route
found_from number [] id route is = absurd (cc (is))
found_from number (r ∷ routes) id route is = by_test (eqb r.id id) refl is (found_from (number + 1) routes id route)
  where
    told : (b : Bool) → eqb r.id id ≡ b → counted_in (map way_in (r ∷ routes)) id ≡ cond {A = ℕ} b r.counted (counted_in (map way_in routes) id)
    told b test =
        ap (λ t. option_map_or {U = ℕ} (λ (route : RouteRow). route.counted) (cond {A = Option RouteRow} t (Some (way_in r)) (find (λ (route : RouteRow). eqb route.id id) (map way_in routes))) 0) test
        ∙ by_case b
      where
        by_case : (t : Bool) →
            option_map_or {U = ℕ} (λ (route : RouteRow). route.counted) (cond {A = Option RouteRow} t (Some (way_in r)) (find (λ (route : RouteRow). eqb route.id id) (map way_in routes))) 0
            ≡ cond {A = ℕ} t r.counted (counted_in (map way_in routes) id)
        by_case true = refl
        by_case false = refl

    moved : (b : Bool) → eqb r.id id ≡ b →
        counted_on (map way_in (r ∷ routes)) id ≡ cond {A = List RouteRow} b (way_in (routing.counted_on r) ∷ map way_in routes) (way_in r ∷ counted_on (map way_in routes) id)
    moved b test = ap (λ t. cond {A = List RouteRow} t (way_in (routing.counted_on r) ∷ map way_in routes) (way_in r ∷ counted_on (map way_in routes) id)) test

    by_test : (b : Bool) → eqb r.id id ≡ b → cond {A = Option ℕ} b (Some number) (route_from (number + 1) routes id) ≡ Some route →
        (route_from (number + 1) routes id ≡ Some route → StandsAt (number + 1) routes id route) → StandsAt number (r ∷ routes) id route
    by_test true test here later = record {
      place = 0;
      is = let same = some_is number route here in omega (arith, same);
      within = omega arith;
      named = eqb-true r.id id test;
      counted = told true test;
      on = sym (moved true test);
    }
    by_test false test there later =
        let rest = later there in
        record {
          place = suc rest.place;
          is = omega (arith, rest.is);
          within = omega (arith, rest.within);
          named = rest.named;
          counted = told false test ∙ rest.counted;
          on = ap (λ rows. way_in r ∷ rows) rest.on ∙ sym (moved false test);
        }

-- a route of an id, by its number
pub record IsRouteOf (r : Routing) (id route : ℕ) : Type 0 where
  pub within : route < length r.routes
  pub named : (route_at r route).id ≡ id
  pub counted : counted_in (map way_in r.routes) id ≡ (route_at r route).counted
  pub on : map way_in (set r.routes route (routing.counted_on (route_at r route))) ≡ counted_on (map way_in r.routes) id

pub found : (r : Routing) (id route : ℕ) → route_of r.routes id ≡ Some route → IsRouteOf r id route
found r id route is =
    let at = found_from 0 r.routes id route is in
    let same : at.place ≡ route = omega (arith, at.is) in
    subst (IsRouteOf r id) same (record { within = at.within; named = at.named; counted = at.counted; on = at.on })

-- an id with a route has one
pub some_way : (r : Routing) (id : ℕ) → has_way (map way_in r.routes) id ≡ true → IsSome (route_of r.routes id)
some_way r id has = way_there r.routes id ∙ has

-- What a change leaves. --

-- the routes of ids stand where they stood, if the id in one place stays
pub route_from-set : (number : ℕ) (routes : List Route) (place id : ℕ) (x d : Route) → x.id ≡ (get_or routes place d).id → route_from number (set routes place x) id ≡ route_from number routes id
route_from-set number [] place id x d same = refl
route_from-set number (r ∷ routes) zero id x d same = ap (λ n. cond {A = Option ℕ} (eqb n id) (Some number) (route_from (number + 1) routes id)) same
route_from-set number (r ∷ routes) (suc place) id x d same = ap (cond {A = Option ℕ} (eqb r.id id) (Some number)) (route_from-set (number + 1) routes place id x d same)

-- and no destination changes if those in one place stay
pub dests-set : (routes : List Route) (place other : ℕ) (x d : Route) → x.dests ≡ (get_or routes place d).dests → (get_or (set routes place x) other d).dests ≡ (get_or routes other d).dests
dests-set [] place other x d same = refl
dests-set (r ∷ routes) zero zero x d same = same
dests-set (r ∷ routes) zero (suc other) x d same = refl
dests-set (r ∷ routes) (suc place) zero x d same = refl
dests-set (r ∷ routes) (suc place) (suc other) x d same = dests-set routes place other x d same

-- the destinations of ids stay their subscriptions, if a route's count changes
pub routed_counted : (subscribed : Subscribed) (r : Routing) (route : ℕ) → AreRouted subscribed r → AreRouted subscribed (with_route r route (routing.counted_on (route_at r route)))
routed_counted subscribed r route routed =
    let next = with_route r route (routing.counted_on (route_at r route)) in
    let same : (id : ℕ) → route_of next.routes id ≡ route_of r.routes id = λ id. route_from-set 0 r.routes route id (routing.counted_on (route_at r route)) (fresh_route 0) refl in
    record {
      dests = λ id other is.
          ap (λ (dests : List Dest). map (λ dest. dest.1) dests) (dests-set r.routes route other (routing.counted_on (route_at r route)) (fresh_route 0) refl)
          ∙ routed.dests id other (sym (same id) ∙ is);
      ways = All-weaker (λ s. is_some (route_of r.routes s.id) ≡ true) (λ s. is_some (route_of next.routes s.id) ≡ true) (λ s has. ap is_some (same s.id) ∙ has) subscribed.live routed.ways;
      once = routed.once;
    }
