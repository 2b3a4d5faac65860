-- What the places of the table stand for.
use Rattle.std.specs.Prelude.{◌≡◌, ◌+◌, nat_le, ℕ, zero, suc, List, [], ◌∷◌, length, map, count_by, Option, Some, None}
use Rattle.std.specs.Ordering.{nat_cmp}
use Rattle.std.specs.FinMap as map
use Rattle.msgid_map.specs.declared.map.TheConstants.{PLACES}

-- the route that is meant by a place: 0 is none, and each other number the route before it
abbrev pub route_at : ℕ → Option ℕ
route_at zero = None
route_at (suc route) = Some route

-- the route of each id
abbrev pub table_of : List ℕ → List (Option ℕ)
table_of places = map route_at places

-- the map that has, from this id on, the routes that stand in a table
abbrev pub routes_from : ℕ → List (Option ℕ) → map.FinMap nat_cmp ℕ
routes_from id [] = map.empty
routes_from id (None ∷ table) = routes_from (id + 1) table
routes_from id (Some route ∷ table) = map.insert (routes_from (id + 1) table) id route

-- how many ids have a route
abbrev pub ids_with_route : List ℕ → ℕ
ids_with_route places = count_by (λ place. nat_le 1 place) places

-- there is a place for each id
abbrev pub ArePlaces : List ℕ → Type 0
ArePlaces places = length places ≡ PLACES
