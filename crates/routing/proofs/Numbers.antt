-- The routes that ids, counts and lists stand for, and what a change of one leaves.
use Rattle.std.proofs.Common.{◌≡◌, ℕ, ◌+◌, ◌-◌, ◌%◌, ◌<◌, ◌≤◌, ◌^◌, ◌⊎◌, inl, inr, zero, suc, Bool, true, false, cond, eqb, ltb, List, [], ◌∷◌, ◌++◌, Option, Some, None, length, get_or, set, replicate, map, count_by, refl, ap, sym, subst, ◌∙◌, arith}
use Rattle.std.proofs.lemmas.Bool.{cases_eq, cases_lt}
use Rattle.std.proofs.lemmas.Bool.Decides.{nat_tests}
use Rattle.std.proofs.lemmas.List.Sums.{sum_by-cons, sum_by-append}
use Rattle.std.proofs.lemmas.List.{map_push, length-set, length-replicate, get_or-set_same, get_or-set_other, get_or_past}
use Rattle.std.specs.Ordering.{nat_cmp}
use Rattle.std.specs.Cmp.{nat_cmp_total, unsigned_tied}
use Rattle.std.specs.FinMap as finmap
use Rattle.fsw_base.specs.Starts.{start_of}
use Rattle.fsw_base.proofs.Lists.{count_by-map}
use Rattle.msgid_map.specs.Map.{IdRoutes}
use Rattle.routing.specs.Dests.{Dest, DestTable, dests_in, has_node}
use Rattle.routing.specs.Inside.{routes_with, place_from, AreNumbered, AreStarted}
use Rattle.routing.specs.Routing.{Route, Routing, fresh_route, route_from, route_of, route_at, dests_at, with_dests, with_route, counted_on}

pub length-routes : (ids counts : List ℕ) (lists : List (List Dest)) → length ids ≤ length counts → length ids ≤ length lists → length (routes_with ids counts lists) ≡ length ids
length-routes [] counts lists h k = refl
length-routes (id ∷ ids) [] lists h k = absurd (omega (arith, h))
length-routes (id ∷ ids) (c ∷ counts) [] h k = absurd (omega (arith, k))
length-routes (id ∷ ids) (c ∷ counts) (ds ∷ lists) h k = ap suc (length-routes ids counts lists (omega (arith, h)) (omega (arith, k)))

pub get_or-routes : (ids counts : List ℕ) (lists : List (List Dest)) (route : ℕ) → length ids ≤ length counts → length ids ≤ length lists → route < length ids
    → get_or (routes_with ids counts lists) route (fresh_route 0) ≡ (let made : Route = record { id = get_or ids route 0; counted = get_or counts route 0; dests = get_or lists route [] } in made)
get_or-routes [] counts lists route h k r = absurd (omega (arith, r))
get_or-routes (id ∷ ids) [] lists route h k r = absurd (omega (arith, h))
get_or-routes (id ∷ ids) (c ∷ counts) [] route h k r = absurd (omega (arith, k))
get_or-routes (id ∷ ids) (c ∷ counts) (ds ∷ lists) zero h k r = refl
get_or-routes (id ∷ ids) (c ∷ counts) (ds ∷ lists) (suc route) h k r = get_or-routes ids counts lists route (omega (arith, h)) (omega (arith, k)) (omega (arith, r))

pub routes-push : (ids counts : List ℕ) (lists : List (List Dest)) (id : ℕ) → length ids < length counts → length ids < length lists → get_or counts (length ids) 0 ≡ 0 → get_or lists (length ids) [] ≡ []
    → routes_with (ids ++ id ∷ []) counts lists ≡ routes_with ids counts lists ++ fresh_route id ∷ []
routes-push ids [] lists id h k ec ed = absurd (omega (arith, h))
routes-push ids (c ∷ counts) [] id h k ec ed = absurd (omega (arith, k))
routes-push [] (c ∷ counts) (ds ∷ lists) id h k ec ed = ap (λ n. (let made : Route = record { id = id; counted = n; dests = ds } in made) ∷ []) ec ∙ ap (λ es. (let made : Route = record { id = id; counted = 0; dests = es } in made) ∷ []) ed
routes-push (i ∷ ids) (c ∷ counts) (ds ∷ lists) id h k ec ed =
    ap (λ rs. (let made : Route = record { id = i; counted = c; dests = ds } in made) ∷ rs) (routes-push ids counts lists id (omega (arith, h)) (omega (arith, k)) ec ed)

pub routes-count : (ids counts : List ℕ) (lists : List (List Dest)) (route count : ℕ) → length ids ≤ length counts → length ids ≤ length lists → route < length ids
    → routes_with ids (set counts route count) lists ≡ set (routes_with ids counts lists) route (record (get_or (routes_with ids counts lists) route (fresh_route 0)) { counted = count })
routes-count [] counts lists route count h k r = absurd (omega (arith, r))
routes-count (id ∷ ids) [] lists route count h k r = absurd (omega (arith, h))
routes-count (id ∷ ids) (c ∷ counts) [] route count h k r = absurd (omega (arith, k))
routes-count (id ∷ ids) (c ∷ counts) (ds ∷ lists) zero count h k r = refl
routes-count (id ∷ ids) (c ∷ counts) (ds ∷ lists) (suc route) count h k r =
    ap (λ rs. (let made : Route = record { id = id; counted = c; dests = ds } in made) ∷ rs) (routes-count ids counts lists route count (omega (arith, h)) (omega (arith, k)) (omega (arith, r)))

pub routes-dests : (ids counts : List ℕ) (lists : List (List Dest)) (route : ℕ) (dests : List Dest) → length ids ≤ length counts → length ids ≤ length lists → route < length ids
    → routes_with ids counts (set lists route dests) ≡ set (routes_with ids counts lists) route (record (get_or (routes_with ids counts lists) route (fresh_route 0)) { dests = dests })
routes-dests [] counts lists route dests h k r = absurd (omega (arith, r))
routes-dests (id ∷ ids) [] lists route dests h k r = absurd (omega (arith, h))
routes-dests (id ∷ ids) (c ∷ counts) [] route dests h k r = absurd (omega (arith, k))
routes-dests (id ∷ ids) (c ∷ counts) (ds ∷ lists) zero dests h k r = refl
routes-dests (id ∷ ids) (c ∷ counts) (ds ∷ lists) (suc route) dests h k r =
    ap (λ rs. (let made : Route = record { id = id; counted = c; dests = ds } in made) ∷ rs) (routes-dests ids counts lists route dests (omega (arith, h)) (omega (arith, k)) (omega (arith, r)))

-- Numbers of ids. --

pub route_from-routes : (number : ℕ) (ids counts : List ℕ) (lists : List (List Dest)) (id : ℕ) → length ids ≤ length counts → length ids ≤ length lists → route_from number (routes_with ids counts lists) id ≡ place_from number ids id
route_from-routes number [] counts lists id h k = refl
route_from-routes number (i ∷ ids) [] lists id h k = absurd (omega (arith, h))
route_from-routes number (i ∷ ids) (c ∷ counts) [] id h k = absurd (omega (arith, k))
route_from-routes number (i ∷ ids) (c ∷ counts) (ds ∷ lists) id h k = ap (cond (eqb i id) (Some number)) (route_from-routes (number + 1) ids counts lists id (omega (arith, h)) (omega (arith, k)))

tests : (b : Bool) → (b ≡ true) ⊎ (b ≡ false)
tests true = inl refl
tests false = inr refl

-- an id more has the next number, and the others keep theirs
place-push : (number : ℕ) (ids : List ℕ) (id q at : ℕ) → place_from number ids id ≡ None → at ≡ number + length ids → place_from number (ids ++ id ∷ []) q ≡ cond (eqb q id) (Some at) (place_from number ids q)
place-push number [] id q at none e = ap (λ b. cond b (Some number) None) (turned q) ∙ ap (λ n. cond (eqb q id) (Some n) None) (same e)
  where
    turned : (p : ℕ) → eqb id p ≡ eqb p id
    turned p = grind (arith, nat_tests)

    same : at ≡ number + 0 → number ≡ at
    same e' = omega (arith, e')
place-push number (i ∷ ids) id q at none e =
    by_case (tests (eqb i q)) (λ other. place-push (number + 1) ids id q at (later (tests (eqb i id))) (omega (arith, e)))
  where
    later : (eqb i id ≡ true) ⊎ (eqb i id ≡ false) → place_from (number + 1) ids id ≡ None
    later (inl t) = absurd (differs (subst (λ b. cond b (Some number) (place_from (number + 1) ids id) ≡ None) t none))
      where
        differs : ◌≡◌ {A = Option ℕ} (Some number) None → ⊥
        differs e' = cc
    later (inr f) = subst (λ b. cond b (Some number) (place_from (number + 1) ids id) ≡ None) f none

    not_it : (eqb i id ≡ true) ⊎ (eqb i id ≡ false) → eqb i q ≡ true → eqb q id ≡ false
    not_it (inl t) same = absurd (differs (subst (λ b. cond b (Some number) (place_from (number + 1) ids id) ≡ None) t none))
      where
        differs : ◌≡◌ {A = Option ℕ} (Some number) None → ⊥
        differs e' = cc
    not_it (inr f) same = grind (arith, nat_tests)

    by_case : (eqb i q ≡ true) ⊎ (eqb i q ≡ false) → (eqb i q ≡ false → place_from (number + 1) (ids ++ id ∷ []) q ≡ cond (eqb q id) (Some at) (place_from (number + 1) ids q))
        → cond (eqb i q) (Some number) (place_from (number + 1) (ids ++ id ∷ []) q) ≡ cond (eqb q id) (Some at) (cond (eqb i q) (Some number) (place_from (number + 1) ids q))
    by_case (inl t) ih =
        ap (λ b. cond b (Some number) (place_from (number + 1) (ids ++ id ∷ []) q)) t
        ∙ sym (ap (λ b. cond b (Some at) (cond (eqb i q) (Some number) (place_from (number + 1) ids q))) (not_it (tests (eqb i id)) t) ∙ ap (λ b. cond b (Some number) (place_from (number + 1) ids q)) t)
    by_case (inr f) ih =
        ap (λ b. cond b (Some number) (place_from (number + 1) (ids ++ id ∷ []) q)) f
        ∙ (ih f ∙ sym (ap (λ b. cond (eqb q id) (Some at) (cond b (Some number) (place_from (number + 1) ids q))) f))

-- an id that has no place isn't there, and may come once
none_there : (number : ℕ) (ids : List ℕ) (id : ℕ) → place_from number ids id ≡ None → count_by (λ other. eqb other id) ids ≡ 0
none_there number [] id none = refl
none_there number (i ∷ ids) id none = by_test (eqb i id) none (λ rest. none_there (number + 1) ids id rest) (sum_by-cons (λ (other : ℕ). cond {A = ℕ} (eqb other id) 1 0) i ids)
  where
    by_test : (b : Bool) → cond {A = Option ℕ} b (Some number) (place_from (number + 1) ids id) ≡ None → (place_from (number + 1) ids id ≡ None → count_by (λ other. eqb other id) ids ≡ 0) →
        count_by (λ other. eqb other id) (i ∷ ids) ≡ cond {A = ℕ} b 1 0 + count_by (λ other. eqb other id) ids → count_by (λ other. eqb other id) (i ∷ ids) ≡ 0
    by_test true is ih counted = absurd (cc (is))
    by_test false is ih counted = omega (arith, counted, ih is)

once_more : (ids : List ℕ) (id q : ℕ) → count_by (λ other. eqb other q) ids ≤ 1 → count_by (λ other. eqb other id) ids ≡ 0 → count_by (λ other. eqb other q) (ids ++ id ∷ []) ≤ 1
once_more ids id q few none = by_test (eqb id q) refl (sum_by-append (λ (other : ℕ). cond {A = ℕ} (eqb other q) 1 0) ids (id ∷ [])) (sum_by-cons (λ (other : ℕ). cond {A = ℕ} (eqb other q) 1 0) id [])
  where
    is_same : (a b : ℕ) → eqb a b ≡ true → b ≡ a
    is_same a b is = grind (arith, nat_tests)

    by_test : (b : Bool) → eqb id q ≡ b → count_by (λ other. eqb other q) (ids ++ id ∷ []) ≡ count_by (λ other. eqb other q) ids + count_by (λ other. eqb other q) (id ∷ []) →
        count_by (λ other. eqb other q) (id ∷ []) ≡ cond {A = ℕ} (eqb id q) 1 0 + 0 → count_by (λ other. eqb other q) (ids ++ id ∷ []) ≤ 1
    by_test true is all one =
        let same = ap (λ n. count_by (λ other. eqb other n) ids) (is_same id q is) in
        omega (arith, all, one, ap (λ b. cond {A = ℕ} b 1 0) is, same, none)
    by_test false is all one = omega (arith, all, one, ap (λ b. cond {A = ℕ} b 1 0) is, few)

pub mapped_more : (m : finmap.FinMap nat_cmp ℕ) (ids : List ℕ) (id at : ℕ) → ((q : ℕ) → finmap.get m q ≡ place_from 0 ids q) → finmap.get m id ≡ None → at ≡ length ids → (q : ℕ) → finmap.get (finmap.insert m id at) q ≡ place_from 0 (ids ++ id ∷ []) q
mapped_more m ids id at mapped none e q =
    finmap.get-insert nat_cmp_total m id at q
    ∙ (ap (λ b. cond b (Some at) (finmap.get m q)) (unsigned_tied q id)
    ∙ (ap (cond (eqb q id) (Some at)) (mapped q) ∙ sym (place-push 0 ids id q at (sym (mapped id) ∙ none) (omega (arith, e)))))

module _ (numbers : IdRoutes) (ids : List ℕ) (capacity : ℕ) (counted : List ℕ) (table : DestTable) (msgids limit : ℕ) (a : AreNumbered numbers ids capacity counted table msgids limit) where
  pub fewer_counts : length ids ≤ length counted
  fewer_counts = omega (arith, a.room, a.counted_all)

  pub fewer_lists : length ids ≤ length table.lists
  fewer_lists = omega (arith, a.room, a.lists_all)

  pub long : length (routes_with ids counted table.lists) ≡ length ids
  long = length-routes ids counted table.lists fewer_counts fewer_lists

  pub dests_is : (route : ℕ) → (get_or (routes_with ids counted table.lists) route (fresh_route 0)).dests ≡ dests_in table route
  dests_is route = by_case (cases_lt route (length ids))
    where
      by_case : (route < length ids) ⊎ (length ids ≤ route) → (get_or (routes_with ids counted table.lists) route (fresh_route 0)).dests ≡ dests_in table route
      by_case (inl h) = ap (λ r. r.dests) (get_or-routes ids counted table.lists route fewer_counts fewer_lists h)
      by_case (inr past) = ap (λ r. r.dests) (get_or_past (routes_with ids counted table.lists) route (fresh_route 0) (omega (arith, past, long))) ∙ sym (a.dests_none route past)

  -- no route has more destinations than it may
  pub dests_few : ((list : ℕ) → list < length table.lists → length (dests_in table list) ≤ table.limit) → (route : ℕ) → length (dests_in table route) ≤ limit
  dests_few within route = by_case (cases_lt route (length table.lists))
    where
      by_case : (route < length table.lists) ⊎ (length table.lists ≤ route) → length (dests_in table route) ≤ limit
      by_case (inl h) = omega (arith, within route h, a.limit_is)
      by_case (inr past) = omega (arith, ap (λ ds. length ds) (a.dests_none route (omega (arith, past, a.room, a.lists_all))))

  pub numbered_push : (id count room capacity' : ℕ) (m : finmap.FinMap nat_cmp ℕ) → finmap.get numbers.routes id ≡ None → length ids < msgids → m ≡ finmap.insert numbers.routes id (length ids) → count ≡ numbers.count + 1 → room ≡ numbers.room - 1 → capacity' ≡ capacity
      → AreNumbered (record { routes = m; count = count; room = room }) (ids ++ id ∷ []) capacity' counted table msgids limit
  numbered_push id count room capacity' m none fits e_m e_count e_room e_capacity =
      let more : length (ids ++ id ∷ []) ≡ length ids + 1 = length_back ids in
      record {
        mapped = λ q. ap (λ n. finmap.get n q) e_m ∙ mapped_more numbers.routes ids id (length ids) a.mapped none refl q;
        once = λ other. once_more ids id other (a.once other) (none_there 0 ids id (sym (a.mapped id) ∙ none));
        all = omega (arith, more, a.all, e_count);
        room = omega (arith, more, a.room, e_room, fits);
        capacity_all = omega (arith, a.capacity_all, e_capacity);
        counted_all = a.counted_all;
        lists_all = a.lists_all;
        limit_is = a.limit_is;
        few = a.few;
        fourteen = a.fourteen;
        counted_none = λ route past. a.counted_none route (omega (arith, past, more));
        dests_none = λ route past. a.dests_none route (omega (arith, past, more));
      }
    where
      length_back : (xs : List ℕ) → length (xs ++ id ∷ []) ≡ length xs + 1
      length_back [] = refl
      length_back (x ∷ xs) = omega (arith, length_back xs)

  pub numbered_count : (route count : ℕ) → route < length ids → count < 16384 → AreNumbered numbers ids capacity (set counted route count) table msgids limit
  numbered_count route count h small = record {
    mapped = a.mapped;
    once = a.once;
    all = a.all;
    room = a.room;
    capacity_all = a.capacity_all;
    counted_all = length-set counted route count ∙ a.counted_all;
    lists_all = a.lists_all;
    limit_is = a.limit_is;
    few = a.few;
    fourteen = λ other. fourteen_at other (cases_eq other route);
    counted_none = λ other past. get_or-set_other counted route other count 0 (λ e. omega (arith, e, past, h)) ∙ a.counted_none other past;
    dests_none = a.dests_none;
  }
    where
      fourteen_at : (other : ℕ) → (other ≡ route) ⊎ (other ≡ route → ⊥) → get_or (set counted route count) other 0 < 16384
      fourteen_at other (inl e) = omega (arith, ap (λ i. get_or (set counted route count) i 0) e, get_or-set_same counted route count 0 (omega (arith, h, fewer_counts)), small)
      fourteen_at other (inr ne) = omega (arith, get_or-set_other counted route other count 0 ne, a.fourteen other)

  pub numbered_dests : (route : ℕ) (dests : List Dest) (table' : DestTable) → route < length ids → table' ≡ (record table { lists = set table.lists route dests }) → AreNumbered numbers ids capacity counted table' msgids limit
  numbered_dests route dests table' h e =
      subst (λ t. AreNumbered numbers ids capacity counted t msgids limit) (sym e)
      (record {
        mapped = a.mapped;
        once = a.once;
        all = a.all;
        room = a.room;
        capacity_all = a.capacity_all;
        counted_all = a.counted_all;
        lists_all = length-set table.lists route dests ∙ a.lists_all;
        limit_is = a.limit_is;
        few = a.few;
        fourteen = a.fourteen;
        counted_none = a.counted_none;
        dests_none = λ other past. get_or-set_other table.lists route other dests [] (λ same. omega (arith, same, past, h)) ∙ a.dests_none other past;
      })

-- what a caller sees of these parts
abbrev pub routing_of : List ℕ → List ℕ → DestTable → ℕ → ℕ → List (ℕ × ℕ) → Routing
routing_of ids counted table msgids limit starts = record { msgids = msgids; dests = limit; starts = starts; routes = routes_with ids counted table.lists }

at_least : (n m : ℕ) → m ≤ n → ltb n m ≡ false
at_least n m h = grind (arith, nat_tests)

less : (n m : ℕ) → n < m → ltb n m ≡ true
less n m h = grind (arith, nat_tests)

pub refused : {A : Type 0} (n m : ℕ) (good bad : A) → m ≤ n → bad ≡ cond (ltb n m) good bad
refused n m good bad h = sym (ap (λ b. cond b good bad) (at_least n m h))

pub accepted : {A : Type 0} (n m : ℕ) (good bad : A) → n < m → good ≡ cond (ltb n m) good bad
accepted n m good bad h = sym (ap (λ b. cond b good bad) (less n m h))

module _ (numbers : IdRoutes) (ids : List ℕ) (capacity : ℕ) (counted : List ℕ) (table : DestTable) (msgids limit : ℕ) (a : AreNumbered numbers ids capacity counted table msgids limit) (starts : List (ℕ × ℕ)) (v : Routing) (e : routing_of ids counted table msgids limit starts ≡ v) where
  pub route_inside : (route : ℕ) → route < length v.routes → route < length ids
  route_inside route h = omega (arith, h, long numbers ids capacity counted table msgids limit a, ap (λ (r : Routing). length r.routes) e)

  pub list_there : (route : ℕ) → route < length v.routes → route < length table.lists
  list_there route h = omega (arith, route_inside route h, fewer_lists numbers ids capacity counted table msgids limit a)

  pub dests_there : (route : ℕ) → dests_in table route ≡ dests_at v route
  dests_there route = sym (dests_is numbers ids capacity counted table msgids limit a route) ∙ ap (λ r. dests_at r route) e

  pub route_there : (route : ℕ) → route < length v.routes → (let made : Route = record { id = get_or ids route 0; counted = get_or counted route 0; dests = dests_in table route } in made) ≡ route_at v route
  route_there route h =
      sym (get_or-routes ids counted table.lists route (fewer_counts numbers ids capacity counted table msgids limit a) (fewer_lists numbers ids capacity counted table msgids limit a) (route_inside route h)) ∙ ap (λ r. route_at r route) e

  pub number_there : (id : ℕ) → finmap.get numbers.routes id ≡ route_of v.routes id
  number_there id =
      a.mapped id ∙ (sym (route_from-routes 0 ids counted table.lists id (fewer_counts numbers ids capacity counted table msgids limit a) (fewer_lists numbers ids capacity counted table msgids limit a)) ∙ ap (λ (r : Routing). route_of r.routes id) e)

  -- if a destination stands, there is a list
  pub holds_inside : (route : ℕ) (before behind : List Dest) (dest : Dest) → dests_in table route ≡ before ++ dest ∷ behind → route < length table.lists
  holds_inside route before behind dest here = by_case (cases_lt route (length table.lists))
    where
      none : (before behind : List Dest) (dest : Dest) → [] ≡ before ++ dest ∷ behind → ⊥
      none [] behind dest n = cc
      none (d ∷ before) behind dest n = cc

      by_case : (route < length table.lists) ⊎ (length table.lists ≤ route) → route < length table.lists
      by_case (inl h) = h
      by_case (inr past) = absurd (none before behind dest (sym (get_or_past table.lists route [] past) ∙ here))

  -- no destination has a node that none of the lists has
  pub fresh_there : (node other : ℕ) → ((list : ℕ) → list < length table.lists → has_node node (dests_in table list) ≡ false) → has_node node (dests_at v other) ≡ false
  fresh_there node other fresh = by_case (cases_lt other (length table.lists))
    where
      by_case : (other < length table.lists) ⊎ (length table.lists ≤ other) → has_node node (dests_at v other) ≡ false
      by_case (inl h) = ap (has_node node) (sym (dests_there other)) ∙ fresh other h
      by_case (inr past) = ap (has_node node) (sym (dests_there other) ∙ get_or_past table.lists other [] past)

  pub dests_after : (table' : DestTable) (route : ℕ) (dests : List Dest) → route < length v.routes → table' ≡ (record table { lists = set table.lists route dests }) → routing_of ids counted table' msgids limit starts ≡ with_dests v route dests
  dests_after table' route dests h e_table =
      ap (λ (t : DestTable). routing_of ids counted t msgids limit starts) e_table
      ∙ (ap (λ rs. let made : Routing = record { msgids = msgids; dests = limit; starts = starts; routes = rs } in made)
      (routes-dests ids counted table.lists route dests (fewer_counts numbers ids capacity counted table msgids limit a) (fewer_lists numbers ids capacity counted table msgids limit a) (route_inside route h))
      ∙ ap (λ r. with_dests r route dests) e)

  pub count_after : (route count : ℕ) → route < length v.routes → count ≡ (get_or counted route 0 + 1) % 16384 → routing_of ids (set counted route count) table msgids limit starts ≡ with_route v route (counted_on (route_at v route))
  count_after route count h e_count =
      ap (λ rs. let made : Routing = record { msgids = msgids; dests = limit; starts = starts; routes = rs } in made)
      (routes-count ids counted table.lists route count (fewer_counts numbers ids capacity counted table msgids limit a) (fewer_lists numbers ids capacity counted table msgids limit a) (route_inside route h))
      ∙ (ap (λ r. with_route r route (record (route_at r route) { counted = count })) e
      ∙ ap (λ n. with_route v route (record (route_at v route) { counted = n })) (e_count ∙ ap (λ (r : Route). (r.counted + 1) % 16384) (route_there route h)))

  pub route_after : (ids' : List ℕ) (id : ℕ) → length ids < msgids → ids' ≡ ids ++ id ∷ [] → routing_of ids' counted table msgids limit starts ≡ (record v { routes = v.routes ++ fresh_route id ∷ [] })
  route_after ids' id fits e_ids =
      ap (λ rs. let made : Routing = record { msgids = msgids; dests = limit; starts = starts; routes = rs } in made)
      (ap (λ is. routes_with is counted table.lists) e_ids ∙ routes-push ids counted table.lists id (omega (arith, fits, a.counted_all)) (omega (arith, fits, a.lists_all)) (a.counted_none (length ids) (omega arith)) (a.dests_none (length ids) (omega arith)))
      ∙ ap (λ (r : Routing). let made : Routing = record { msgids = r.msgids; dests = r.dests; starts = r.starts; routes = r.routes ++ fresh_route id ∷ [] } in made) e

-- counts that are added up before or after they are cut to 14 bits
-- what stands beside an id
pub get_or-map_in : (f : ℕ → ℕ) (xs : List ℕ) (i : ℕ) → i < length xs → get_or (map f xs) i 0 ≡ f (get_or xs i 0)
get_or-map_in f [] i within = absurd (omega (arith, within))
get_or-map_in f (x ∷ xs) zero within = refl
get_or-map_in f (x ∷ xs) (suc i) within = get_or-map_in f xs i (omega (arith, within))

-- and what stands there once one more is made
pub started_push : (starts : List (ℕ × ℕ)) (ids firsts : List ℕ) (capacity msgids id first capacity' : ℕ) → AreStarted starts ids firsts capacity msgids → first ≡ start_of starts id → first < 16384 → capacity' ≡ capacity →
    AreStarted starts (ids ++ id ∷ []) (firsts ++ first ∷ []) capacity' msgids
started_push starts ids firsts capacity msgids id first capacity' a is small same = record {
  each = ap (λ l. l ++ first ∷ []) a.each ∙ ap (λ n. map (start_of starts) ids ++ n ∷ []) is ∙ sym (map_push (start_of starts) ids id);
  small = λ route. below firsts route a.small;
  capacity_all = omega (arith, a.capacity_all, same);
}
  where
    below : (xs : List ℕ) (route : ℕ) → ((i : ℕ) → get_or xs i 0 < 16384) → get_or (xs ++ first ∷ []) route 0 < 16384
    below [] zero all = omega (arith, small)
    below [] (suc route) all = omega arith
    below (x ∷ xs) zero all = all 0
    below (x ∷ xs) (suc route) all = below xs route (λ i. all (suc i))

-- no id of the routes stands twice
pub routes_once : (ids counts : List ℕ) (lists : List (List Dest)) (id : ℕ) → length ids ≤ length counts → length ids ≤ length lists → count_by (λ route. eqb route.id id) (routes_with ids counts lists) ≡ count_by (λ other. eqb other id) ids
routes_once ids counts lists id h k = sym (count_by-map (λ other. eqb other id) (λ (r : Route). r.id) (routes_with ids counts lists)) ∙ ap (count_by (λ other. eqb other id)) (ids_are ids counts lists h k)
  where
    ids_are : (ids counts : List ℕ) (lists : List (List Dest)) → length ids ≤ length counts → length ids ≤ length lists → map (λ (r : Route). r.id) (routes_with ids counts lists) ≡ ids
    ids_are [] counts lists h k = refl
    ids_are (i ∷ ids) [] lists h k = absurd (omega (arith, h))
    ids_are (i ∷ ids) (c ∷ counts) [] h k = absurd (omega (arith, k))
    ids_are (i ∷ ids) (c ∷ counts) (ds ∷ lists) h k = ap (λ l. i ∷ l) (ids_are ids counts lists (omega (arith, h)) (omega (arith, k)))

pub counts_on : (start count : ℕ) → (start + (count + 1) % 16384) % 16384 ≡ (start + count + 1) % 16384
counts_on start count = omega arith

-- what was given altogether may be cut to 14 bits before it is added
pub cut_before : (start count calls : ℕ) → count ≡ calls % 16384 → (start + count + 1) % 16384 ≡ (start + calls + 1) % 16384
cut_before start count calls e = omega (arith, e)

pub cut_on : (count calls : ℕ) → count ≡ calls % 16384 → (count + 1) % 16384 ≡ (calls + 1) % 16384
cut_on count calls e = omega (arith, e)

-- no routes yet
pub numbered_new : (numbers : IdRoutes) (ids : List ℕ) (capacity : ℕ) (counted : List ℕ) (table : DestTable) (msgids limit : ℕ) → (let made : IdRoutes = record { routes = finmap.empty; count = 0; room = msgids } in numbers ≡ made) → ids ≡ [] → msgids ≤ capacity → counted ≡ replicate msgids 0
    → (let made : DestTable = record { limit = limit; lists = replicate msgids [] } in table ≡ made) → msgids < 2 ^ 32 → AreNumbered numbers ids capacity counted table msgids limit
numbered_new numbers ids capacity counted table msgids limit e_numbers e_ids room e_counted e_table few = record {
  mapped = λ q. ap (λ (n : IdRoutes). finmap.get n.routes q) e_numbers ∙ (finmap.get-empty {X = ℕ} nat_cmp q ∙ ap (λ is. place_from 0 is q) (sym e_ids));
  once = λ id. omega (arith, ap (count_by (λ other. eqb other id)) e_ids);
  all = ap (λ (n : IdRoutes). n.count) e_numbers ∙ ap (λ is. length is) (sym e_ids);
  room = omega (arith, ap (λ (n : IdRoutes). n.room) e_numbers, ap (λ is. length is) e_ids);
  capacity_all = room;
  counted_all = ap (λ ls. length ls) e_counted ∙ length-replicate {A = ℕ} msgids 0;
  lists_all = ap (λ (t : DestTable). length t.lists) e_table ∙ length-replicate {A = List Dest} msgids [];
  limit_is = ap (λ (t : DestTable). t.limit) e_table;
  few = few;
  fourteen = λ route. omega (arith, zero_at route);
  counted_none = λ route past. zero_at route;
  dests_none = λ route past. ap (λ (t : DestTable). dests_in t route) e_table ∙ none_at msgids route;
}
  where
    zeros : (n route : ℕ) → get_or (replicate n 0) route 0 ≡ zero
    zeros zero route = refl
    zeros (suc n) zero = refl
    zeros (suc n) (suc route) = zeros n route

    zero_at : (route : ℕ) → get_or counted route 0 ≡ 0
    zero_at route = ap (λ ls. get_or ls route 0) e_counted ∙ zeros msgids route

    none_at : (n route : ℕ) → get_or {A = List Dest} (replicate n []) route [] ≡ []
    none_at zero route = refl
    none_at (suc n) zero = refl
    none_at (suc n) (suc route) = none_at n route
