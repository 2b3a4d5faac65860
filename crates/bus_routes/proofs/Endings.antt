-- A subscription that ends leaves the route of its id, and no other.
use Rattle.std.proofs.Common.{◌≡◌, ◌≢◌, ℕ, suc, ◌+◌, ◌<◌, ◌≤◌, Bool, true, false, not, cond, ◌&&◌, eqb, List, [], ◌∷◌, length, get_or, map, filter, find, Option, Some, None, is_some, refl, ap, sym, subst, ◌∙◌, arith}
use Rattle.std.specs.Bool.{IsTrue}
use Rattle.std.specs.List.{All, list_any}
use Rattle.std.specs.Option.{option_map}
use Rattle.std.proofs.Math.Seq.{map-set_same}
use Rattle.std.proofs.lemmas.Bool.{eqb-true, eq-eqb}
use Rattle.std.proofs.lemmas.Bool.Decides.{nat_tests}
use Rattle.std.proofs.lemmas.List.{get_or-set_same, get_or-set_other, length-map}
use Rattle.std.proofs.lemmas.List.Elements.{All-nil, All-cons, All-head, All-tail, All-weaker, All-filter}
use Rattle.fsw_base.proofs.Lists.{list_any-map}
use Rattle.subscriptions.specs.declared.words.SubNo.{SubNo}
use Rattle.subscriptions.specs.declared.words.SubRow.{SubRow}
use Rattle.subscriptions.specs.Subs.{LiveSubscription, Subscribed, row_of, number_of, goes_by, live_at, without, IsRising}
use Rattle.routing.specs.Dests.{Dest, is_sub, has_sub}
use Rattle.routing.specs.Dests as dests
use Rattle.routing.specs.Routing.{Route, Routing, fresh_route, route_at, dests_at, route_from, route_of, with_dests}
use Rattle.bus_routes.specs.Inside.{AreRouted, of_id, way_in, ways_of, ties}
use Rattle.bus_routes.proofs.EndingsLists.{with_implied, found_all, found_passes, found_filtered, none_passes, filter_whole, filter_shorter, filters_commute, filter_within, count_filtered}

-- Numbers of live subscriptions. --

-- rising numbers are all above the first bound
pub rising_above : (below : ℕ) (live : List LiveSubscription) → IsRising below live → All (λ s. below < s.number) live
rising_above below [] rising = All-nil (λ (s : LiveSubscription). below < s.number)
rising_above below (s ∷ live) rising =
    All-cons (λ t. below < t.number) s live rising.0
    (All-weaker (λ t. s.number < t.number) (λ t. below < t.number) (λ t above. omega (arith, above, rising.0)) live (rising_above s.number live rising.1))

-- a lower bound serves too
rising_lower : (low below : ℕ) (live : List LiveSubscription) → low ≤ below → IsRising below live → IsRising low live
rising_lower low below [] le rising = tt
rising_lower low below (s ∷ live) le rising = (omega (arith, le, rising.0), rising.1)

-- those that a filter leaves rise too
pub rising_filter : (p : LiveSubscription → Bool) (below : ℕ) (live : List LiveSubscription) → IsRising below live → IsRising below (filter p live)
rising_filter p below [] rising = tt
rising_filter p below (s ∷ live) rising = choose (p s) (rising_filter p s.number live rising.1)
  where
    choose : (b : Bool) → IsRising s.number (filter p live) → IsRising below (cond {A = List LiveSubscription} b (s ∷ filter p live) (filter p live))
    choose true ih = (rising.0, ih)
    choose false ih = rising_lower below s.number (filter p live) (omega (arith, rising.0)) ih

-- a conjunction has both parts
pub and_left : (a b : Bool) → (a && b) ≡ true → a ≡ true
and_left true b e = refl
and_left false b e = e

pub and_right : (a b : Bool) → (a && b) ≡ true → b ≡ true
and_right true b e = e
and_right false b e = absurd cc

-- what goes by a slot and a number has both
pub goes : (sub : SubNo) (s : LiveSubscription) → goes_by sub s ≡ true → (s.slot ≡ sub.slot) × (s.number ≡ sub.number)
goes sub s e = (
  eqb-true s.slot sub.slot (and_left (eqb s.slot sub.slot) (eqb s.number sub.number) e),
  eqb-true s.number sub.number (and_right (eqb s.slot sub.slot) (eqb s.number sub.number) e),
)

-- no other has the number of a live subscription
pub own_number : (sub : SubNo) (below : ℕ) (live : List LiveSubscription) (s : LiveSubscription) → IsRising below live → find (goes_by sub) live ≡ Some s →
    All (λ t. t.number ≡ sub.number → t ≡ s) live
own_number sub below [] s rising found = absurd cc
own_number sub below (t ∷ live) s rising found = choose (own_number sub t.number live s rising.1) (goes_by sub t) refl found
  where
    Own : LiveSubscription → Type 0
    Own u = u.number ≡ sub.number → u ≡ s

    choose : (find (goes_by sub) live ≡ Some s → All Own live) → (b : Bool) → goes_by sub t ≡ b → cond {A = Option LiveSubscription} b (Some t) (find (goes_by sub) live) ≡ Some s → All Own (t ∷ live)
    choose rest true e found =
        let same : t ≡ s = cc in
        let its = (goes sub t e).1 in
        All-cons Own t live (λ _. same)
        (All-weaker (λ u. t.number < u.number) Own (λ u above is. absurd (omega (arith, above, is, its))) live (rising_above t.number live rising.1))
    choose rest false e found =
        let above : t.number < s.number = found_all (goes_by sub) (λ u. t.number < u.number) live s (rising_above t.number live rising.1) found in
        let its = (goes sub s (found_passes (goes_by sub) live s found)).1 in
        All-cons Own t live (λ is. absurd (omega (arith, above, is, its))) (rest found)

-- Destinations. --

-- the destinations of subscriptions, once one of these has ended
pub without_dest : (sub : SubNo) (ds : List Dest) (below : ℕ) (live : List LiveSubscription) → IsRising below live → All (λ s. s.number ≡ sub.number → s.slot ≡ sub.slot) live →
    map (λ dest. dest.1) ds ≡ map number_of live → map (λ dest. dest.1) (dests.without sub ds) ≡ map number_of (filter (λ s. not (eqb s.number sub.number)) live)
without_dest sub [] below [] rising own same = refl
without_dest sub [] below (s ∷ live) rising own same = absurd cc
without_dest sub (d ∷ ds) below [] rising own same = absurd cc
without_dest sub (d ∷ ds) below (s ∷ live) rising own same =
    let here : d.1 ≡ number_of s = cc in
    let behind : map (λ dest. dest.1) ds ≡ map number_of live = cc in
    let test : is_sub d.1 sub ≡ eqb s.number sub.number =
    ap (λ n. is_sub n sub) here
    ∙ with_implied (eqb s.slot sub.slot) (eqb s.number sub.number)
    (λ e. eq-eqb s.slot sub.slot (All-head Own s live own (eqb-true s.number sub.number e))) in
    ap (λ b. map (λ dest. dest.1) (cond {A = List Dest} b ds (d ∷ dests.without sub ds))) test
    ∙ choose here behind (eqb s.number sub.number) refl (without_dest sub ds s.number live rising.1 (All-tail Own s live own) behind)
  where
    Own : LiveSubscription → Type 0
    Own u = u.number ≡ sub.number → u.slot ≡ sub.slot

    left : List LiveSubscription
    left = filter (λ u. not (eqb u.number sub.number)) live

    apart : (u : LiveSubscription) → s.number < u.number → s.number ≡ sub.number → not (eqb u.number sub.number) ≡ true
    apart u above is = grind (arith, nat_tests)

    choose : d.1 ≡ number_of s → map (λ dest. dest.1) ds ≡ map number_of live → (b : Bool) → eqb s.number sub.number ≡ b →
        map (λ dest. dest.1) (dests.without sub ds) ≡ map number_of left →
        map (λ dest. dest.1) (cond {A = List Dest} b ds (d ∷ dests.without sub ds)) ≡ map number_of (cond {A = List LiveSubscription} (not b) (s ∷ left) left)
    choose here behind true e ih =
        behind
        ∙ ap (map number_of)
        (sym (filter_whole (λ u. not (eqb u.number sub.number)) live
        (All-weaker (λ u. s.number < u.number) (λ u. not (eqb u.number sub.number) ≡ true) (λ u above. apart u above (eqb-true s.number sub.number e)) live (rising_above s.number live rising.1))))
    choose here behind false e ih = ap (λ n. n ∷ map (λ dest. dest.1) (dests.without sub ds)) here ∙ ap (λ l. number_of s ∷ l) ih

-- Routes. --

-- a route that is found, from a number on, has the id at its place
route_place : (number : ℕ) (routes : List Route) (id route : ℕ) → route_from number routes id ≡ Some route →
    (k : ℕ) × (route ≡ number + k) × (k < length routes) × ((get_or routes k (fresh_route 0)).id ≡ id)
route_place number [] id route is = absurd cc
route_place number (r ∷ rs) id route is = choose (route_place (number + 1) rs id route) (eqb r.id id) refl is
  where
    choose : (route_from (number + 1) rs id ≡ Some route → (k : ℕ) × (route ≡ number + 1 + k) × (k < length rs) × ((get_or rs k (fresh_route 0)).id ≡ id)) →
        (b : Bool) → eqb r.id id ≡ b → cond {A = Option ℕ} b (Some number) (route_from (number + 1) rs id) ≡ Some route →
        (k : ℕ) × (route ≡ number + k) × (k < suc (length rs)) × ((get_or (r ∷ rs) k (fresh_route 0)).id ≡ id)
    choose rest true e is =
        let same : number ≡ route = cc in
        (0, omega (arith, same), omega arith, eqb-true r.id id e)
    choose rest false e is =
        let found = rest is in
        (suc found.0, omega (arith, found.1), omega (arith, found.2), found.3)

-- the route of an id has the id
pub route_there : (routes : List Route) (id route : ℕ) → route_of routes id ≡ Some route → (route < length routes) × ((get_or routes route (fresh_route 0)).id ≡ id)
route_there routes id route is =
    let found = route_place 0 routes id route is in
    let same : found.0 ≡ route = omega (arith, found.1) in
    (omega (arith, found.2, same), subst (λ k. (get_or routes k (fresh_route 0)).id ≡ id) same found.3)

-- routes of the same ids have the same numbers
pub route_of_ways : (xs ys : List Route) → map way_in xs ≡ map way_in ys → (number id : ℕ) → route_from number xs id ≡ route_from number ys id
route_of_ways [] [] same number id = refl
route_of_ways [] (y ∷ ys) same number id = absurd cc
route_of_ways (x ∷ xs) [] same number id = absurd cc
route_of_ways (x ∷ xs) (y ∷ ys) same number id =
    let here : way_in x ≡ way_in y = cc in
    let behind : map way_in xs ≡ map way_in ys = cc in
    ap (λ i. cond {A = Option ℕ} (eqb i id) (Some number) (route_from (number + 1) xs id)) (ap (λ w. w.id) here)
    ∙ ap (λ o. cond {A = Option ℕ} (eqb y.id id) (Some number) o) (route_of_ways xs ys behind (number + 1) id)

-- The end of a subscription. --

-- the live subscription whose row was read
pub at_row : (o : Option LiveSubscription) (row : SubRow) → option_map row_of o ≡ Some row → (s : LiveSubscription) × (o ≡ Some s) × (s.id ≡ row.id)
at_row None row is = absurd cc
at_row (Some s) row is = let same : row_of s ≡ row = cc in (s, refl, ap (λ r. r.id) same)

module _ (subs : Subscribed) (routing : Routing) (sub : SubNo) (s : LiveSubscription) (route : ℕ) (rising : IsRising 0 subs.live) (live : live_at subs sub ≡ Some s)
    (routed : AreRouted subs routing) (is : route_of routing.routes s.id ≡ Some route) where
  -- the route has it as a destination
  pub is_dest : has_sub sub (dests_at routing route) ≡ true
  is_dest =
      sym (list_any-map (λ n. is_sub n sub) (λ dest. dest.1) (dests_at routing route))
      ∙ ap (list_any (λ n. is_sub n sub)) (routed.dests s.id route is)
      ∙ list_any-map (λ n. is_sub n sub) number_of (of_id s.id subs)
      ∙ found_filtered (goes_by sub) (λ t. eqb t.id s.id) subs.live s live (eq-eqb s.id s.id refl)

  -- the route is as long as the list of the id's subscriptions
  pub route_length : length (dests_at routing route) ≡ length (of_id s.id subs)
  route_length =
      sym (length-map (dests_at routing route) (λ dest. dest.1))
      ∙ ap length (routed.dests s.id route is)
      ∙ length-map (of_id s.id subs) number_of

  module _ (next : Routing) (next_is : next ≡ with_dests routing route (dests.without sub (dests_at routing route))) where
    -- the route without the destination
    abbrev changed : Route
    changed = record (route_at routing route) { dests = dests.without sub (dests_at routing route) }

    -- ids and counts are as they were
    pub ended_ways : ways_of next ≡ ways_of routing
    ended_ways = ap ways_of next_is ∙ map-set_same way_in routing.routes route changed (fresh_route 0) refl

    -- the id's destinations are its subscriptions still
    ended_own : map (λ dest. dest.1) (dests_at next route) ≡ map number_of (of_id s.id (without subs sub))
    ended_own =
        let Own : LiveSubscription → Type 0 = λ t. t.number ≡ sub.number → t.slot ≡ sub.slot in
        let own = All-weaker (λ t. t.number ≡ sub.number → t ≡ s) Own
        (λ t only has. ap (λ u. u.slot) (only has) ∙ (goes sub s (found_passes (goes_by sub) subs.live s live)).0) subs.live (own_number sub 0 subs.live s rising live) in
        ap (λ n. map (λ dest. dest.1) (dests_at n route)) next_is
        ∙ ap (λ r. map (λ dest. dest.1) r.dests) (get_or-set_same routing.routes route changed (fresh_route 0) (route_there routing.routes s.id route is).0)
        ∙ without_dest sub (dests_at routing route) 0 (of_id s.id subs) (rising_filter (λ t. eqb t.id s.id) 0 subs.live rising)
        (All-filter (λ t. eqb t.id s.id) Own subs.live own) (routed.dests s.id route is)
        ∙ ap (map number_of) (filters_commute (λ t. not (eqb t.number sub.number)) (λ t. eqb t.id s.id) subs.live)

    -- so are those of each other id
    ended_other : (id r : ℕ) → id ≢ s.id → route_of routing.routes id ≡ Some r → map (λ dest. dest.1) (dests_at next r) ≡ map number_of (of_id id (without subs sub))
    ended_other id r other at =
        let elsewhere : r ≢ route = λ same.
        other (sym (route_there routing.routes id r at).1 ∙ ap (λ k. (get_or routing.routes k (fresh_route 0)).id) same ∙ (route_there routing.routes s.id route is).1) in
        let stays = All-weaker (λ t. t.number ≡ sub.number → t ≡ s) (λ t. eqb t.id id ≡ true → not (eqb t.number sub.number) ≡ true)
        (λ t only has. by_number t only has (eqb t.number sub.number) refl) subs.live (own_number sub 0 subs.live s rising live) in
        ap (λ n. map (λ dest. dest.1) (dests_at n r)) next_is
        ∙ ap (λ x. map (λ dest. dest.1) x.dests) (get_or-set_other routing.routes route r changed (fresh_route 0) elsewhere)
        ∙ routed.dests id r at
        ∙ ap (map number_of) (sym (filter_within (λ t. eqb t.id id) (λ t. not (eqb t.number sub.number)) subs.live stays))
      where
        by_number : (t : LiveSubscription) → (t.number ≡ sub.number → t ≡ s) → eqb t.id id ≡ true → (b : Bool) → eqb t.number sub.number ≡ b → not b ≡ true
        by_number t only has true e = absurd (other (sym (eqb-true t.id id has) ∙ ap (λ u. u.id) (only (eqb-true t.number sub.number e))))
        by_number t only has false e = refl

    -- what is left is tied as it was
    pub ended_routed : AreRouted (without subs sub) next
    ended_routed = record {
      dests = λ id r at. by_id id r (sym (route_of_ways next.routes routing.routes ended_ways 0 id) ∙ at) (eqb id s.id) refl;
      ways =
          All-weaker (λ t. is_some (route_of routing.routes t.id) ≡ true) (λ t. is_some (route_of next.routes t.id) ≡ true)
          (λ t way. ap is_some (route_of_ways next.routes routing.routes ended_ways 0 t.id) ∙ way) (without subs sub).live
          (All-filter (λ t. not (eqb t.number sub.number)) (λ t. is_some (route_of routing.routes t.id) ≡ true) subs.live routed.ways);
      once = λ id pipe. omega (arith, count_filtered (ties id pipe) (λ t. not (eqb t.number sub.number)) subs.live, routed.once id pipe);
    }
      where
        by_id : (id r : ℕ) → route_of routing.routes id ≡ Some r → (b : Bool) → eqb id s.id ≡ b → map (λ dest. dest.1) (dests_at next r) ≡ map number_of (of_id id (without subs sub))
        by_id id r at true e =
            let same : id ≡ s.id = eqb-true id s.id e in
            let both : Some r ≡ Some route = sym at ∙ ap (route_of routing.routes) same ∙ is in
            let there : r ≡ route = cc in
            ap (λ k. map (λ dest. dest.1) (dests_at next k)) there
            ∙ ended_own
            ∙ ap (λ i. map number_of (of_id i (without subs sub))) (sym same)
        by_id id r at false e = ended_other id r (λ same. absurd (cc (sym e ∙ eq-eqb id s.id same))) at

-- a live subscription's id has a route
pub has_route : (subs : Subscribed) (routing : Routing) (sub : SubNo) (s : LiveSubscription) → live_at subs sub ≡ Some s → AreRouted subs routing → route_of routing.routes s.id ≡ None → ⊥
has_route subs routing sub s live routed none =
    let way = found_all (goes_by sub) (λ t. is_some (route_of routing.routes t.id) ≡ true) subs.live s routed.ways live in
    cc (way, none)

-- The end of a pipe's subscriptions. --

-- the live subscription whose pipe is known
pub of_pipe : (o : Option LiveSubscription) (pipe : ℕ) → option_map (λ s. s.pipe) o ≡ Some pipe → (s : LiveSubscription) × (o ≡ Some s) × (s.pipe ≡ pipe)
of_pipe None pipe is = absurd cc
of_pipe (Some s) pipe is = let same : s.pipe ≡ pipe = cc in (s, refl, same)

-- the end of one that is to go takes none away that is to stay
pub stays_without : (live : List LiveSubscription) (sub : SubNo) (s : LiveSubscription) (stays : LiveSubscription → Bool) → IsRising 0 live → find (goes_by sub) live ≡ Some s → stays s ≡ false →
    filter stays (filter (λ t. not (eqb t.number sub.number)) live) ≡ filter stays live
stays_without live sub s stays rising found goes_too =
    filter_within stays (λ t. not (eqb t.number sub.number)) live
    (All-weaker (λ t. t.number ≡ sub.number → t ≡ s) (λ t. stays t ≡ true → not (eqb t.number sub.number) ≡ true) (λ t only here. by_number t only here (eqb t.number sub.number) refl)
    live (own_number sub 0 live s rising found))
  where
    by_number : (t : LiveSubscription) → (t.number ≡ sub.number → t ≡ s) → stays t ≡ true → (b : Bool) → eqb t.number sub.number ≡ b → not b ≡ true
    by_number t only here true e = absurd (cc (sym here ∙ ap stays (only (eqb-true t.number sub.number e)) ∙ goes_too))
    by_number t only here false e = refl

-- it makes the list shorter
pub fewer_without : (live : List LiveSubscription) (sub : SubNo) (s : LiveSubscription) → find (goes_by sub) live ≡ Some s → length (filter (λ t. not (eqb t.number sub.number)) live) < length live
fewer_without live sub s found =
    filter_shorter (goes_by sub) (λ t. not (eqb t.number sub.number)) live s found
    (ap not (eq-eqb s.number sub.number (goes sub s (found_passes (goes_by sub) live s found)).1))

-- a pipe that has no subscription
pub none_of_pipe : (live : List LiveSubscription) (pipe : ℕ) → (IsTrue (list_any (λ s. eqb s.pipe pipe) live) → ⊥) → filter (λ s. not (eqb s.pipe pipe)) live ≡ live
none_of_pipe live pipe none =
    filter_whole (λ s. not (eqb s.pipe pipe)) live
    (All-weaker (λ s. eqb s.pipe pipe ≡ false) (λ s. not (eqb s.pipe pipe) ≡ true) (λ s other. ap not other) live
    (none_passes (λ s. eqb s.pipe pipe) live (is_false (list_any (λ s. eqb s.pipe pipe) live) none)))
  where
    is_false : (b : Bool) → (IsTrue b → ⊥) → b ≡ false
    is_false true never = absurd (never refl)
    is_false false never = refl

-- what a further change leaves as it was at first
pub same_frame : (first before after : Subscribed) (live : List LiveSubscription) → after ≡ record before { live = live } → before ≡ record first { live = before.live } → after ≡ record first { live = after.live }
same_frame first before after live is was =
    is ∙ ap (λ s. let v : Subscribed = record s { live = live } in v) was ∙ sym (ap (λ s. let v : Subscribed = record first { live = s.live } in v) is)

-- the same for the routes
pub same_routing : (first before after : Routing) → after ≡ record before { routes = after.routes } → before ≡ record first { routes = before.routes } → after ≡ record first { routes = after.routes }
same_routing first before after is was = is ∙ ap (λ r. let v : Routing = record r { routes = after.routes } in v) was
