-- What ties an id to a pipe, as the tables' user sees it.
use Rattle.std.proofs.Common.{◌≡◌, ℕ, ◌<◌, ◌≤◌, Bool, true, false, not, cond, ◌&&◌, eqb, List, [], ◌∷◌, length, get_or, map, filter, find, count_by, Option, Some, None, is_some, refl, ap, sym, subst, ◌∙◌, arith}
use Rattle.std.specs.List.{All}
use Rattle.std.specs.Option.{option_map}
use Rattle.std.proofs.lemmas.Bool.{eqb-true, eq-eqb}
use Rattle.std.proofs.lemmas.Bool.Decides.{nat_tests}
use Rattle.std.proofs.lemmas.List.{length-map}
use Rattle.std.proofs.lemmas.List.Elements.{All-weaker, All-filter}
use Rattle.fsw_base.proofs.Lists.{list_any-map, filter-map}
use Rattle.bus_words.specs.Bus.{route, is_subscribed}
use Rattle.bus_words.specs.Bus as bus
use Rattle.pipe_queue.specs.declared.item.Item.{Item}
use Rattle.bus_words.specs.Pipes.{PipeOf}
use Rattle.pipe_table.specs.Table.{Pipes}
use Rattle.subscriptions.specs.declared.words.SubNo.{SubNo}
use Rattle.subscriptions.specs.Subs.{LiveSubscription, Subscribed, number_of, goes_by, live_at, without, IsRising}
use Rattle.routing.specs.Routing.{Routing, dests_at, route_of}
use Rattle.bus_routes.specs.Rows.{Row}
use Rattle.bus_routes.specs.Tables.{Tables}
use Rattle.bus_routes.specs.Inside.{row_in, tables_in, ways_of, AreRouted, AreQueued, IsQueued, IsOf, IsCounted, of_id, sub_in, first_of, ties}
use Rattle.bus_routes.proofs.EndingsLists.{any_found, found_all, found_passes, found_only, filter_alike, filter_empty, filter_whole, not_none, not_found}
use Rattle.bus_routes.proofs.Endings.{and_left, own_number, goes, rising_above}

-- Ids and pipes. --

-- an answer is there, however it is seen
is_some_map : {X Y : Type 0} (f : X → Y) (o : Option X) → is_some (option_map f o) ≡ is_some o
is_some_map f None = refl
is_some_map f (Some x) = refl

-- a pipe is subscribed to an id if and only if a live subscription that ties them is found
pub subscribed_seen : (subs : Subscribed) (id pipe : ℕ) → is_some (first_of subs id pipe) ≡ is_subscribed (map sub_in subs.live) id pipe
subscribed_seen subs id pipe =
    is_some_map number_of (find (ties id pipe) subs.live)
    ∙ any_found (ties id pipe) subs.live
    ∙ sym (list_any-map (λ sub. eqb sub.id id && eqb sub.pipe pipe) sub_in subs.live)

-- the id's subscriptions are as many as are seen
pub route_seen : (subs : Subscribed) (id : ℕ) → length (route (map sub_in subs.live) id) ≡ length (of_id id subs)
route_seen subs id =
    ap length (filter-map (λ sub. eqb sub.id id) sub_in subs.live)
    ∙ length-map (of_id id subs) sub_in

-- a route has as many destinations as its id has subscriptions
pub dests_seen : (subs : Subscribed) (routing : Routing) (id r : ℕ) → AreRouted subs routing → route_of routing.routes id ≡ Some r →
    length (dests_at routing r) ≡ length (route (map sub_in subs.live) id)
dests_seen subs routing id r routed is =
    sym (length-map (dests_at routing r) (λ dest. dest.1))
    ∙ ap length (routed.dests id r is)
    ∙ length-map (of_id id subs) number_of
    ∙ sym (route_seen subs id)

-- an id without a route has no subscription
pub no_dests : (subs : Subscribed) (routing : Routing) (id : ℕ) → AreRouted subs routing → route_of routing.routes id ≡ None → 0 ≡ length (route (map sub_in subs.live) id)
no_dests subs routing id routed none =
    ap length (sym (filter_empty (λ s. eqb s.id id) subs.live
    (All-weaker (λ s. is_some (route_of routing.routes s.id) ≡ true) (λ s. eqb s.id id ≡ false) (λ s way. other s way (eqb s.id id) refl) subs.live routed.ways)))
    ∙ sym (route_seen subs id)
  where
    other : (s : LiveSubscription) → is_some (route_of routing.routes s.id) ≡ true → (b : Bool) → eqb s.id id ≡ b → b ≡ false
    other s way true e = absurd (not_none (route_of routing.routes s.id) way (ap (route_of routing.routes) (eqb-true s.id id e) ∙ none))
    other s way false e = refl

-- The one that ties. --

-- the live subscription whose number was found
pub tied_one : (o : Option LiveSubscription) (sub : SubNo) → option_map number_of o ≡ Some sub → (s : LiveSubscription) × (o ≡ Some s) × (number_of s ≡ sub)
tied_one None sub is = absurd cc
tied_one (Some s) sub is = let same : number_of s ≡ sub = cc in (s, refl, same)

-- what is found is found by its number too
pub found_by_number : (p : LiveSubscription → Bool) (below : ℕ) (live : List LiveSubscription) (s : LiveSubscription) → IsRising below live → find p live ≡ Some s → find (goes_by (number_of s)) live ≡ Some s
found_by_number p below [] s rising found = absurd cc
found_by_number p below (t ∷ live) s rising found = choose (found_by_number p t.number live s rising.1) (p t) found
  where
    own : goes_by (number_of t) t ≡ true
    own = ap (λ b. b && eqb t.number t.number) (eq-eqb t.slot t.slot refl) ∙ eq-eqb t.number t.number refl

    and_false : (b : Bool) → (b && false) ≡ false
    and_false true = refl
    and_false false = refl

    less_apart : t.number < s.number → eqb t.number s.number ≡ false
    less_apart above = grind (arith, nat_tests)

    choose : (find p live ≡ Some s → find (goes_by (number_of s)) live ≡ Some s) → (b : Bool) → cond {A = Option LiveSubscription} b (Some t) (find p live) ≡ Some s →
        cond {A = Option LiveSubscription} (goes_by (number_of s) t) (Some t) (find (goes_by (number_of s)) live) ≡ Some s
    choose rest true found =
        let same : t ≡ s = cc in
        ap (λ u. cond {A = Option LiveSubscription} (goes_by (number_of u) t) (Some t) (find (goes_by (number_of s)) live)) (sym same)
        ∙ ap (λ b. cond {A = Option LiveSubscription} b (Some t) (find (goes_by (number_of s)) live)) own
        ∙ ap (λ u. Some u) same
    choose rest false found =
        let above : t.number < s.number = found_all p (λ u. t.number < u.number) live s (rising_above t.number live rising.1) found in
        ap (λ b. cond {A = Option LiveSubscription} b (Some t) (find (goes_by (number_of s)) live)) (ap (λ b. eqb t.slot s.slot && b) (less_apart above) ∙ and_false (eqb t.slot s.slot))
        ∙ rest found

-- the one that ties is live under its number
pub tied_live : (subs : Subscribed) (id pipe : ℕ) (sub : SubNo) (s : LiveSubscription) → IsRising 0 subs.live → find (ties id pipe) subs.live ≡ Some s → number_of s ≡ sub → live_at subs sub ≡ Some s
tied_live subs id pipe sub s rising found is = subst (λ n. live_at subs n ≡ Some s) is (found_by_number (ties id pipe) 0 subs.live s rising found)

-- what ties an id is of it
pub tied_id : (id pipe : ℕ) (s : LiveSubscription) → ties id pipe s ≡ true → s.id ≡ id
tied_id id pipe s tie = eqb-true s.id id (and_left (eqb s.id id) (eqb s.pipe pipe) tie)

-- the end of the one that ties leaves those that don't
pub without_tied : (subs : Subscribed) (id pipe : ℕ) (sub : SubNo) (s : LiveSubscription) → IsRising 0 subs.live → find (ties id pipe) subs.live ≡ Some s → live_at subs sub ≡ Some s →
    count_by (ties id pipe) subs.live ≤ 1 → map sub_in (without subs sub).live ≡ filter (λ t. not (eqb t.id id && eqb t.pipe pipe)) (map sub_in subs.live)
without_tied subs id pipe sub s rising found live few =
    ap (map sub_in)
    (filter_alike (λ t. not (eqb t.number sub.number)) (λ t. not (ties id pipe t)) subs.live
    (λ k d within. same (get_or subs.live k d) (by_number k d within) (by_tie k d within) (eqb (get_or subs.live k d).number sub.number) (ties id pipe (get_or subs.live k d)) refl refl))
    ∙ sym (filter-map (λ t. not (eqb t.id id && eqb t.pipe pipe)) sub_in subs.live)
  where
    by_number : All (λ t. t.number ≡ sub.number → t ≡ s) subs.live
    by_number = own_number sub 0 subs.live s rising live

    by_tie : All (λ t. ties id pipe t ≡ true → t ≡ s) subs.live
    by_tie = found_only (ties id pipe) subs.live s found few

    same : (t : LiveSubscription) → (t.number ≡ sub.number → t ≡ s) → (ties id pipe t ≡ true → t ≡ s) → (a b : Bool) → eqb t.number sub.number ≡ a → ties id pipe t ≡ b → not a ≡ not b
    same t number tie true true e f = refl
    same t number tie false false e f = refl
    same t number tie true false e f =
        absurd (cc (sym f ∙ ap (ties id pipe) (number (eqb-true t.number sub.number e)) ∙ found_passes (ties id pipe) subs.live s found))
    same t number tie false true e f =
        absurd (cc (sym e ∙ eq-eqb t.number sub.number (ap (λ u. u.number) (tie f) ∙ (goes sub s (found_passes (goes_by sub) subs.live s live)).1)))

-- if none ties, all stay
pub none_tied : (subs : Subscribed) (id pipe : ℕ) → first_of subs id pipe ≡ None → map sub_in subs.live ≡ filter (λ t. not (eqb t.id id && eqb t.pipe pipe)) (map sub_in subs.live)
none_tied subs id pipe none =
    ap (map sub_in)
    (sym (filter_whole (λ t. not (ties id pipe t)) subs.live
    (All-weaker (λ t. ties id pipe t ≡ false) (λ t. not (ties id pipe t) ≡ true) (λ t fails. ap not fails) subs.live
    (not_found (ties id pipe) subs.live (no_number (find (ties id pipe) subs.live) none)))))
    ∙ sym (filter-map (λ t. not (eqb t.id id && eqb t.pipe pipe)) sub_in subs.live)
  where
    no_number : (o : Option LiveSubscription) → option_map number_of o ≡ None → o ≡ None
    no_number None is = refl
    no_number (Some t) is = absurd cc

-- Messages that wait. --

-- what waits stays counted if subscriptions leave
pub queued_left : (rows : List (PipeOf Item)) (subs : Subscribed) (stays : LiveSubscription → Bool) → AreQueued rows subs → AreQueued rows (record subs { live = filter stays subs.live })
queued_left rows subs stays queued = record {
  counted = All-filter stays (IsCounted rows) subs.live queued.counted;
  items =
      All-weaker (λ row. All (IsQueued subs row.number) row.queue) (λ row. All (IsQueued left row.number) row.queue)
      (λ row all. All-weaker (IsQueued subs row.number) (IsQueued left row.number) (λ item one. record { made = one.made; own = All-filter stays (IsOf row.number item) subs.live one.own }) row.queue all)
      rows queued.items;
}
  where
    left : Subscribed
    left = record subs { live = filter stays subs.live }

-- What the tables stand for. --

-- what they stand for once pipes and subscriptions have left, and routes have changed in their destinations alone
pub seen_left : (pipes some : Pipes) (subs few : Subscribed) (routing next : Routing) (now : Tables) (rows : List Row) (left : List bus.Subscription) → tables_in pipes subs routing ≡ now →
    some ≡ record pipes { live = some.live; places = some.places } → map row_in some.live ≡ rows →
    few ≡ record subs { live = few.live } → map sub_in few.live ≡ left →
    next ≡ record routing { routes = next.routes } → ways_of next ≡ ways_of routing →
    tables_in some few next ≡ record now { pipes = rows; subscriptions = left }
seen_left pipes some subs few routing next now rows left view pipes_is rows_are subs_are left_are routing_is ways =
    ap (λ p. tables_in p few next) pipes_is
    ∙ ap (λ s. tables_in (record pipes { live = some.live; places = some.places }) s next) subs_are
    ∙ ap (λ r. tables_in (record pipes { live = some.live; places = some.places }) (record subs { live = few.live }) r) routing_is
    ∙ ap (λ l. let v : Tables = record (tables_in pipes subs routing) { pipes = l; subscriptions = map sub_in few.live; routes = ways_of next } in v) rows_are
    ∙ ap (λ l. let v : Tables = record (tables_in pipes subs routing) { pipes = rows; subscriptions = l; routes = ways_of next } in v) left_are
    ∙ ap (λ l. let v : Tables = record (tables_in pipes subs routing) { pipes = rows; subscriptions = left; routes = l } in v) ways
    ∙ ap (λ t. let v : Tables = record t { pipes = rows; subscriptions = left } in v) view
