-- What a table of routes maps, before and after a write.
use Rattle.std.proofs.Common.{◌≡◌, ◌+◌, ◌<◌, ◌≤◌, ℕ, zero, suc, true, false, cond, eqb, ltb, leb, Bool, List, [], ◌∷◌, ◌++◌, Option, Some, None, length, get_or, set, take, replicate, refl, sym, ap, ◌∙◌, arith}
use Rattle.std.proofs.lemmas.List.{get_or-set_same, get_or-set_other, get_or_read, get_or_past, length-set}
use Rattle.std.proofs.lemmas.List.Sums.{sum_by-set, count_by-le-length}
use Rattle.std.proofs.lemmas.Bool.Decides.{nat_tests}
use Rattle.std.specs.Ordering.{nat_cmp}
use Rattle.std.specs.Cmp.{nat_cmp_total, unsigned_tied}
use Rattle.std.specs.FinMap as map
use Rattle.msgid_map.specs.Inside.{routes_from, route_at, table_of, ids_with_route}

is_same : (n : ℕ) → eqb n n ≡ true
is_same n = grind (arith, nat_tests)

is_other : (n k : ℕ) → (n ≡ k → ⊥) → eqb n k ≡ false
is_other n k ne = grind (arith, nat_tests)

-- what a map answers once a key was inserted
pub get_inserted : (m : map.FinMap nat_cmp ℕ) (k v q : ℕ) → map.get (map.insert m k v) q ≡ cond (eqb q k) (Some v) (map.get m q)
get_inserted m k v q = map.get-insert nat_cmp_total m k v q ∙ ap (λ b. cond b (Some v) (map.get m q)) (unsigned_tied q k)

pub get_same : (m : map.FinMap nat_cmp ℕ) (k v q : ℕ) → q ≡ k → map.get (map.insert m k v) q ≡ Some v
get_same m k v q e = get_inserted m k v q ∙ ap (λ b. cond b (Some v) (map.get m q)) (ap (λ n. eqb n k) e ∙ is_same k)

pub get_other : (m : map.FinMap nat_cmp ℕ) (k v q : ℕ) → (q ≡ k → ⊥) → map.get (map.insert m k v) q ≡ map.get m q
get_other m k v q ne = get_inserted m k v q ∙ ap (λ b. cond b (Some v) (map.get m q)) (is_other q k ne)

-- no id before the table's first has a route
get-before : (id : ℕ) (table : List (Option ℕ)) (q : ℕ) → q < id → map.get (routes_from id table) q ≡ None
get-before id [] q h = map.get-empty {X = ℕ} nat_cmp q
get-before id (None ∷ table) q h = get-before (id + 1) table q (omega arith)
get-before id (Some route ∷ table) q h =
    get_other (routes_from (id + 1) table) id route q (λ e. omega arith) ∙ get-before (id + 1) table q (omega arith)

get-at : (id : ℕ) (table : List (Option ℕ)) (k q : ℕ) → q ≡ id + k → map.get (routes_from id table) q ≡ get_or table k None
get-at id [] k q e = map.get-empty {X = ℕ} nat_cmp q
get-at id (None ∷ table) zero q e = get-before (id + 1) table q (omega arith)
get-at id (None ∷ table) (suc k) q e = get-at (id + 1) table k q (omega arith)
get-at id (Some route ∷ table) zero q e = get_same (routes_from (id + 1) table) id route q (omega arith)
get-at id (Some route ∷ table) (suc k) q e =
    get_other (routes_from (id + 1) table) id route q (λ same. omega arith) ∙ get-at (id + 1) table k q (omega arith)

-- the map answers what stands in the table
pub get-routes_from : (table : List (Option ℕ)) (q : ℕ) → map.get (routes_from 0 table) q ≡ get_or table q None
get-routes_from table q = get-at 0 table q q (omega arith)

-- what stands in the table at an id is what its place means
get-table_of : (places : List ℕ) (q : ℕ) → get_or (table_of places) q None ≡ route_at (get_or places q 0)
get-table_of [] q = refl
get-table_of (place ∷ places) zero = refl
get-table_of (place ∷ places) (suc q) = get-table_of places q

-- the map answers what the id's place means
pub route_of : (places : List ℕ) (q : ℕ) → map.get (routes_from 0 (table_of places)) q ≡ route_at (get_or places q 0)
route_of places q = get-routes_from (table_of places) q ∙ get-table_of places q

-- an id without a route has the place 0
pub place_of_none : (places : List ℕ) (id : ℕ) → map.get (routes_from 0 (table_of places)) id ≡ None → get_or places id 0 ≡ 0
place_of_none places id none = by_place (get_or places id 0) (sym (route_of places id) ∙ none)
  where
    by_place : (place : ℕ) → route_at place ≡ None → place ≡ 0
    by_place zero is = refl
    by_place (suc place) never = absurd (cc (never))

-- a route and one more, as the place of an id, is an insert
pub routes_from-set : (places : List ℕ) (id route place : ℕ) → id < length places → place ≡ route + 1 →
    routes_from 0 (table_of (set places id place)) ≡ map.insert (routes_from 0 (table_of places)) id route
routes_from-set places id route place h e =
    map.same_map nat_cmp_total map.nat_cmp-IsAntisymmetric _ _ (λ q. route_of (set places id place) q ∙ written q (eqb q id) refl)
  where
    meant : (p : ℕ) → p ≡ route + 1 → route_at p ≡ Some route
    meant zero never = absurd (omega (arith, never))
    meant (suc p) is = ap (λ (n : ℕ). Some n) (omega (arith, is))

    written : (q : ℕ) (b : Bool) → eqb q id ≡ b → route_at (get_or (set places id place) q 0) ≡ map.get (map.insert (routes_from 0 (table_of places)) id route) q
    written q true is =
        let same : q ≡ id = grind (arith, nat_tests) in
        ap (λ n. route_at (get_or (set places id place) n 0)) same
        ∙ meant (get_or (set places id place) id 0) (get_or-set_same places id place 0 h ∙ e)
        ∙ sym (get_same (routes_from 0 (table_of places)) id route q same)
    written q false is =
        let other : q ≡ id → ⊥ = λ same. grind (arith, nat_tests) in
        ap route_at (get_or-set_other places id q place 0 other)
        ∙ sym (get_other (routes_from 0 (table_of places)) id route q other ∙ route_of places q)

-- no place means a route
routes_from-none : (id n : ℕ) → routes_from id (table_of (replicate n 0)) ≡ map.empty
routes_from-none id zero = refl
routes_from-none id (suc n) = routes_from-none (id + 1) n

none_used : (n : ℕ) → ids_with_route (replicate n 0) ≡ 0
none_used zero = refl
none_used (suc n) = none_used n

-- places that were just made
places-made : (before places : List ℕ) (first more : ℕ) → before ≡ [] → places ≡ take first before ++ replicate more 0 → places ≡ replicate more 0
places-made before places first more e_before e_places =
    e_places ∙ ap (λ (ps : List ℕ). take first ps ++ replicate more 0) e_before ∙ nothing first
  where
    nothing : (n : ℕ) → (let none : List ℕ = replicate more 0 in take n [] ++ none ≡ none)
    nothing zero = refl
    nothing (suc n) = refl

pub routes_from-made : (before places : List ℕ) (first more : ℕ) → before ≡ [] → places ≡ take first before ++ replicate more 0 → routes_from 0 (table_of places) ≡ map.empty
routes_from-made before places first more e_before e_places =
    ap (λ ps. routes_from 0 (table_of ps)) (places-made before places first more e_before e_places) ∙ routes_from-none 0 more

pub none-made : (before places : List ℕ) (first more : ℕ) → before ≡ [] → places ≡ take first before ++ replicate more 0 → ids_with_route places ≡ 0
none-made before places first more e_before e_places =
    ap ids_with_route (places-made before places first more e_before e_places) ∙ none_used more

-- one id more has a route
pub one_more : (places : List ℕ) (id place : ℕ) → id < length places → get_or places id 0 ≡ 0 → 0 < place → ids_with_route (set places id place) ≡ ids_with_route places + 1
one_more places id place within none some =
    let one : ℕ → ℕ = λ n. cond (leb 1 n) 1 0 in
    let counted : one place ≡ 1 = ap (λ b. cond b 1 0) (at_least place some) in
    let before : one (get_or places id 0) ≡ 0 = ap one none in
    omega (arith, sum_by-set one places id place 0 within, counted, before)
  where
    at_least : (n : ℕ) → 0 < n → leb 1 n ≡ true
    at_least n is = grind (arith, nat_tests)

-- and so there are fewer routes than places
pub few_routes : (places : List ℕ) (id : ℕ) → id < length places → get_or places id 0 ≡ 0 → ids_with_route places < length places
few_routes places id within none =
    omega (arith, one_more places id 1 within none (omega arith), count_by-le-length (λ n. leb 1 n) (set places id 1), length-set places id 1)

-- what is read at an id, and what isn't there
pub place_read : (places read : List ℕ) (id place : ℕ) → read ≡ places → true ≡ ltb id (length read) → place ≡ get_or read id place → place ≡ get_or places id 0
place_read places read id place e_read inside found =
    let within : id < length read = grind (arith, nat_tests) in
    get_or_read read id place within found 0 ∙ ap (λ ps. get_or ps id 0) e_read

pub place_past : (places read : List ℕ) (id : ℕ) → read ≡ places → false ≡ ltb id (length read) → None ≡ map.get (routes_from 0 (table_of places)) id
place_past places read id e_read outside =
    let past : length read ≤ id = grind (arith, nat_tests) in
    let none : get_or places id 0 ≡ 0 = ap (λ ps. get_or ps id 0) (sym e_read) ∙ get_or_past read id 0 past in
    sym (route_of places id ∙ ap route_at none)
