-- The routes of the software bus: for each message id that has one, its sequence count (CCSDS
-- 133.0-B, 4.1.3.4.3) and its destinations.
use Rattle.std.specs.Prelude.{◌≡◌, ℕ, ◌+◌, ◌%◌, ◌==◌, List, [], ◌∷◌, slice_index_or, slice_set, Option, Some, None, if◌then◌else◌}
use Rattle.fsw_base.specs.Starts.{start_of}
use Rattle.routing.specs.Dests.{Dest}

-- A route: its message id, how many counts it has given, modulo 16384, and its destinations in
-- order of subscription.
pub record Route : Type 0 where
  pub id : ℕ
  pub counted : ℕ
  pub dests : List Dest

-- How many routes there may be and how many destinations each may have, the counts at which ids
-- start, and the routes in order of making: a route's number is its place.
pub record Routing : Type 0 where
  pub msgids : ℕ
  pub dests : ℕ
  pub starts : List (ℕ × ℕ)
  pub routes : List Route

-- a route without destinations that has given no count
abbrev pub fresh_route : ℕ → Route
fresh_route id = record { id = id; counted = 0; dests = [] }

-- the route of a number
abbrev pub route_at : Routing → ℕ → Route
route_at s route = slice_index_or s.routes route (fresh_route 0)

-- the destinations of the route of a number
abbrev pub dests_at : Routing → ℕ → List Dest
dests_at s route = (route_at s route).dests

-- the number of the id's route, if routes are numbered on from this number
abbrev pub route_from : ℕ → List Route → ℕ → Option ℕ
route_from number [] id = None
route_from number (route ∷ routes) id =
    if route.id == id then Some number else route_from (number + 1) routes id

-- the number of the id's route
abbrev pub route_of : List Route → ℕ → Option ℕ
route_of routes id = route_from 0 routes id

-- the routes, with the one of this number changed
abbrev pub with_route : Routing → ℕ → Route → Routing
with_route s number route = record s { routes = slice_set s.routes number route }

-- the routes, with these destinations at the one of this number
abbrev pub with_dests : Routing → ℕ → List Dest → Routing
with_dests s number dests = with_route s number (record (route_at s number) { dests = dests })

-- the next count of a route: its id's start, one for each count that it has given, and one more, in
-- 14 bits
abbrev pub next_of : List (ℕ × ℕ) → Route → ℕ
next_of starts route = (start_of starts route.id + route.counted + 1) % 16384

-- the route once it has given a count more
abbrev pub counted_on : Route → Route
counted_on route = record route { counted = (route.counted + 1) % 16384 }

-- a route that has given so many counts altogether
abbrev pub HasGiven : Route → ℕ → Type 0
HasGiven route calls = route.counted ≡ calls % 16384

-- Whatever has been given so far, the next count is the id's start, one for each count given and
-- one more, in 14 bits; and then one more is given. A fresh route has given none.
abbrev pub CountsGoByCalls : Type 0
CountsGoByCalls =
    ((id : ℕ) → HasGiven (fresh_route id) 0)
    × ((starts : List (ℕ × ℕ)) (route : Route) (calls : ℕ) → HasGiven route calls →
    next_of starts route ≡ (start_of starts route.id + calls + 1) % 16384)
    × ((route : Route) (calls : ℕ) → HasGiven route calls → HasGiven (counted_on route) (calls + 1))
