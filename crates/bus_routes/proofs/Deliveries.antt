-- A message on its way along the destinations of its id: what was done of them, and what is left to do.
use Rattle.std.proofs.Common.{◌≡◌, ℕ, ◌+◌, ◌*◌, ◌<◌, ◌≤◌, Bool, true, false, cond, eqb, List, [], ◌∷◌, ◌++◌, length, take, drop, map, filter, find, Option, Some, None, is_some, refl, ap, sym, ◌∙◌, subst, arith, add_assoc, append_assoc, length-append, zero-add, take-append-drop}
use Rattle.std.specs.List.{All}
use Rattle.std.specs.Option.{IfSome, option_map, option_map_or, option_and_then}
use Rattle.std.proofs.lemmas.Bool.{eq-eqb, ne_eqb, and_from, and_right}
use Rattle.std.proofs.lemmas.List.{length-map, drop-map, drop-drop, append-nil}
use Rattle.std.proofs.lemmas.List.Elements.{All-nil, All-cons, All-head, All-tail, All-drop, All-filter}
use Rattle.fsw_base.proofs.Lists.{filter-map, find-map}
use Rattle.bus_words.specs.Bus as bus
use Rattle.bus_words.specs.Bus.{route}
use Rattle.pipe_table.specs.Table.{Pipes}
use Rattle.subscriptions.specs.declared.words.SubNo.{SubNo}
use Rattle.subscriptions.specs.Subs.{Subscribed, LiveSubscription, number_of, goes_by, live_at, AreInOrder}
use Rattle.routing.specs.Dests.{Dest, first_dest}
use Rattle.routing.specs.Routing.{Route, Routing, route_from, route_of, dests_at}
use Rattle.bus_routes.specs.declared.message.Message.{Message}
use Rattle.bus_routes.specs.Missed.{Missed}
use Rattle.bus_words.specs.declared.miss.Miss.{Miss}
use Rattle.bus_words.specs.declared.miss.MissCause.{MissCause}
use Rattle.bus_words.specs.Pipes.{cause_of, with_pipe, pipe_at, verdict}
use Rattle.bus_routes.specs.declared.tables.ItemRow.{ItemRow}
use Rattle.bus_routes.specs.Rows.{Row, offered_row, row_takes, deliver_rows, reached_rows, row_misses, missed_rows, row_drops, dropped_rows}
use Rattle.bus_routes.specs.Inside.{row_in, sub_in, uncounted, still, frame, of_id, AreQueued, AreRouted}
use Rattle.bus_routes.proofs.OffersLists.{all_both, Rises, all_above}
use Rattle.bus_routes.proofs.OffersSubs.{subs_rise, live_still}

-- Routes. --

-- the route of an id is one of the routes
pub route_within : (number : ℕ) (routes : List Route) (id route : ℕ) → route_from number routes id ≡ Some route → route < number + length routes
route_within number [] id route is = absurd (cc (is))
route_within number (r ∷ routes) id route is = by_test (eqb r.id id) is (λ rest. route_within (number + 1) routes id route rest)
  where
    by_test : (b : Bool) → cond {A = Option ℕ} b (Some number) (route_from (number + 1) routes id) ≡ Some route →
        (route_from (number + 1) routes id ≡ Some route → route < number + 1 + length routes) → route < number + length (r ∷ routes)
    by_test true here ih =
        let same : number ≡ route = cc (here) in
        omega (arith, same)
    by_test false here ih = omega (arith, ih here)

-- the subscriptions of an id, as contracts see them
pub route_seen : (subs : Subscribed) (id : ℕ) → route (map sub_in subs.live) id ≡ map sub_in (of_id id subs)
route_seen subs id = filter-map (λ s. eqb s.id id) sub_in subs.live

-- an id without a route has no subscription
pub none_of_id : (subs : Subscribed) (routing : Routing) (id : ℕ) → AreRouted subs routing → route_of routing.routes id ≡ None → of_id id subs ≡ []
none_of_id subs routing id routed none = each subs.live routed.ways
  where
    each : (live : List LiveSubscription) → All (λ s. is_some (route_of routing.routes s.id) ≡ true) live → filter (λ s. eqb s.id id) live ≡ []
    each [] all = refl
    each (s ∷ live) all =
        ap (λ b. cond {A = List LiveSubscription} b (s ∷ filter (λ t. eqb t.id id) live) (filter (λ t. eqb t.id id) live)) (ne_eqb s.id id other)
        ∙ each live (All-tail (λ t. is_some (route_of routing.routes t.id) ≡ true) s live all)
      where
        other : s.id ≡ id → ⊥
        other same =
            let no : false ≡ true = ap is_some (sym none) ∙ ap (λ n. is_some (route_of routing.routes n)) (sym same) ∙ All-head (λ t. is_some (route_of routing.routes t.id) ≡ true) s live all in
            absurd (cc (no))

pub no_route : (subs : Subscribed) (routing : Routing) (id : ℕ) → AreRouted subs routing → route_of routing.routes id ≡ None → route (map sub_in subs.live) id ≡ []
no_route subs routing id routed none = route_seen subs id ∙ ap (map sub_in) (none_of_id subs routing id routed none)

-- Live subscriptions. --

-- a live subscription is found by its slot and number
pub each_found : (below : ℕ) (live : List LiveSubscription) → Rises (λ s. s.number) below live → All (λ s. find (goes_by (number_of s)) live ≡ Some s) live
each_found below [] rises = All-nil (λ s. find (goes_by (number_of s)) [] ≡ Some s)
each_found below (x ∷ xs) rises =
    All-cons (λ s. find (goes_by (number_of s)) (x ∷ xs) ≡ Some s) x xs
    (ap (λ b. cond {A = Option LiveSubscription} b (Some x) (find (goes_by (number_of x)) xs)) (and_from (eqb x.slot x.slot) (eqb x.number x.number) (eq-eqb x.slot x.slot refl) (eq-eqb x.number x.number refl)))
    (all_both (λ s. find (goes_by (number_of s)) xs ≡ Some s) (λ s. x.number < s.number) (λ s. find (goes_by (number_of s)) (x ∷ xs) ≡ Some s)
    (λ s is more. ap (λ b. cond {A = Option LiveSubscription} b (Some x) (find (goes_by (number_of s)) xs))
    (and_right (eqb x.slot s.slot) (eqb x.number s.number) (ne_eqb x.number s.number (λ same. omega (arith, same, more)))) ∙ is)
    xs (each_found x.number xs rises.1) (all_above (λ s. s.number) x.number xs rises.1))

-- and so it is once counts have changed
found_now : (first subs : Subscribed) (s : LiveSubscription) → still subs ≡ still first → live_at first (number_of s) ≡ Some s → (t : LiveSubscription) × (live_at subs (number_of s) ≡ Some t) × (sub_in t ≡ sub_in s)
found_now first subs s same live = by_found (live_at subs (number_of s)) refl seen
  where
    bare : (some : Subscribed) → find (goes_by (number_of s)) (map uncounted some.live) ≡ option_map uncounted (live_at some (number_of s))
    bare some = find-map (goes_by (number_of s)) uncounted some.live

    seen : option_map uncounted (live_at subs (number_of s)) ≡ Some (uncounted s)
    seen = sym (bare subs) ∙ ap (find (goes_by (number_of s))) (live_still first subs same) ∙ bare first ∙ ap (option_map uncounted) live

    by_found : (o : Option LiveSubscription) → live_at subs (number_of s) ≡ o → option_map uncounted o ≡ Some (uncounted s) → (t : LiveSubscription) × (live_at subs (number_of s) ≡ Some t) × (sub_in t ≡ sub_in s)
    by_found None is none = absurd (cc (none))
    by_found (Some t) is some =
        let both : uncounted t ≡ uncounted s = cc (some) in
        (t, is, ap sub_in both)

-- What is left. --

pub left_more : {X : Type 0} (k : ℕ) (xs : List X) (x : X) (rest : List X) → drop k xs ≡ x ∷ rest → rest ≡ drop (k + 1) xs
left_more k xs x rest is = ap (drop 1) (sym is) ∙ drop-drop 1 k xs

pub first_left : (k : ℕ) (dests : List Dest) (dest : Dest) → Some dest ≡ first_dest (drop k dests) → drop k dests ≡ dest ∷ drop (k + 1) dests
first_left k dests dest is = by_left (drop k dests) refl is
  where
    by_left : (left : List Dest) → drop k dests ≡ left → Some dest ≡ first_dest left → drop k dests ≡ dest ∷ drop (k + 1) dests
    by_left [] here none = absurd (cc (none))
    by_left (d ∷ rest) here some =
        let same : d ≡ dest = cc (some) in
        here ∙ ap (λ l. d ∷ l) (left_more k dests d rest here) ∙ ap (λ e. e ∷ drop (k + 1) dests) same

-- where a node stands
pub stands_at : (k : ℕ) (dests : List Dest) (dest : Dest) → Some dest ≡ first_dest (drop k dests) → dests ≡ take k dests ++ dest ∷ drop (k + 1) dests
stands_at k dests dest is = sym (take-append-drop k dests) ∙ ap (λ l. take k dests ++ l) (first_left k dests dest is)

-- So many destinations are done: what is left of them, with the pipes as they are, comes to what the whole does with the
-- pipes as they were.
pub record Walked (old : Pipes) (first : Subscribed) (routing : Routing) (id way : ℕ) (message : Message) (k : ℕ) (at : Option Dest) (pipes : Pipes) (subs : Subscribed) (count : ℕ) : Type 0 where
  pub at_is : at ≡ first_dest (drop k (dests_at routing way))
  pub low : IfSome at (λ dest. dest.0 < routing.msgids * routing.dests)
  pub rows : deliver_rows message (map sub_in (drop k (of_id id first))) (map row_in pipes.live) ≡ deliver_rows message (map sub_in (of_id id first)) (map row_in old.live)
  pub reached : count + reached_rows message (map sub_in (drop k (of_id id first))) (map row_in pipes.live) ≡ reached_rows message (map sub_in (of_id id first)) (map row_in old.live)
  pub few : count ≤ k
  pub framed : frame pipes ≡ frame old
  pub same : still subs ≡ still first
  pub queued : AreQueued pipes.live subs

-- So many destinations are done: the pipes told so far, and those that what is left will tell, are those that the whole tells;
-- and so are the items that left.
pub record Told (old : Pipes) (first : Subscribed) (id : ℕ) (message : Message) (start : Missed) (k : ℕ) (pipes : Pipes) (misses : Missed) : Type 0 where
  pub told : misses.items ++ missed_rows message (map sub_in (drop k (of_id id first))) (map row_in pipes.live) ≡ missed_rows message (map sub_in (of_id id first)) (map row_in old.live)
  pub dropped : misses.dropped ++ dropped_rows message (map sub_in (drop k (of_id id first))) (map row_in pipes.live) ≡ dropped_rows message (map sub_in (of_id id first)) (map row_in old.live)
  pub short : length misses.items ≤ k
  pub room : misses.room ≡ start.room

-- of one pipe at most one thing is told
pub one_told : (message : Message) (sub : bus.Subscription) (rows : List Row) → length (row_misses message sub rows) ≤ 1
one_told message sub rows = by_cause (option_and_then (λ (row : Row). cause_of (verdict (λ (i : ItemRow). i.subscription) row sub message.sender)) (pipe_at rows sub.pipe))
  where
    by_cause : (o : Option MissCause) → length (option_map_or {U = List Miss} (λ cause. record { pipe = sub.pipe; cause = cause } ∷ []) o []) ≤ 1
    by_cause None = omega arith
    by_cause (Some cause) = omega arith

-- before the first
pub told_first : (old : Pipes) (first : Subscribed) (id : ℕ) (message : Message) (start misses : Missed) → misses ≡ record start { items = []; dropped = [] } → Told old first id message start 0 old misses
told_first old first id message start misses is =
    subst (λ m. Told old first id message start 0 old m) (sym is) (record { told = refl; dropped = refl; short = omega arith; room = refl })

module _ (old : Pipes) (first : Subscribed) (routing : Routing) (id way : ℕ) (message : Message)
    (order : AreInOrder first) (routed : AreRouted first routing) (is : route_of routing.routes id ≡ Some way) where
  tied : map (λ dest. dest.1) (dests_at routing way) ≡ map number_of (of_id id first)
  tied = routed.dests id way is

  -- as many subscriptions as destinations
  pub as_many : length (route (map sub_in first.live) id) ≡ length (dests_at routing way)
  as_many =
      ap length (route_seen first id)
      ∙ length-map (of_id id first) sub_in
      ∙ sym (length-map (of_id id first) number_of)
      ∙ ap length (sym tied)
      ∙ length-map (dests_at routing way) (λ dest. dest.1)

  -- before the first
  pub walked_first : (at : Option Dest) → at ≡ first_dest (dests_at routing way) → IfSome at (λ dest. dest.0 < routing.msgids * routing.dests) → AreQueued old.live first →
      Walked old first routing id way message 0 at old first 0
  walked_first at at_is low queued = record {
    at_is = at_is;
    low = low;
    rows = refl;
    reached = zero-add (reached_rows message (map sub_in (of_id id first)) (map row_in old.live));
    few = omega arith;
    framed = refl;
    same = refl;
    queued = queued;
  }

  module _ (k node : ℕ) (sub : SubNo) (pipes : Pipes) (subs : Subscribed) (count : ℕ) (walked : Walked old first routing id way message k (Some (node, sub)) pipes subs count) where
    left : drop k (dests_at routing way) ≡ (node, sub) ∷ drop (k + 1) (dests_at routing way)
    left = first_left k (dests_at routing way) (node, sub) walked.at_is

    -- where the node stands
    pub stands : dests_at routing way ≡ take k (dests_at routing way) ++ (node, sub) ∷ drop (k + 1) (dests_at routing way)
    stands = stands_at k (dests_at routing way) (node, sub) walked.at_is

    -- the subscription whose turn it is
    due : (s : LiveSubscription) × (drop k (of_id id first) ≡ s ∷ drop (k + 1) (of_id id first)) × (number_of s ≡ sub)
    due = by_left (drop k (of_id id first)) refl
        (sym (drop-map number_of k (of_id id first)) ∙ ap (drop k) (sym tied) ∙ drop-map (λ dest. dest.1) k (dests_at routing way) ∙ ap (map (λ dest. dest.1)) left)
      where
        by_left : (l : List LiveSubscription) → drop k (of_id id first) ≡ l → map number_of l ≡ sub ∷ map (λ dest. dest.1) (drop (k + 1) (dests_at routing way)) →
            (s : LiveSubscription) × (drop k (of_id id first) ≡ s ∷ drop (k + 1) (of_id id first)) × (number_of s ≡ sub)
        by_left [] here none = absurd (cc (none))
        by_left (s ∷ rest) here some = (s, here ∙ ap (λ l. s ∷ l) (left_more k (of_id id first) s rest here), cc (some))

    -- it is live
    now : (t : LiveSubscription) × (live_at subs sub ≡ Some t) × (sub_in t ≡ sub_in due.0)
    now =
        let Found : LiveSubscription → Type 0 = λ s. live_at first (number_of s) ≡ Some s in
        let all : All Found (due.0 ∷ drop (k + 1) (of_id id first)) =
        subst (All Found) due.1 (All-drop Found k (of_id id first) (All-filter (λ s. eqb s.id id) Found first.live (each_found 0 first.live (subs_rise 0 first.live order.rising)))) in
        let found = found_now first subs due.0 walked.same (All-head Found due.0 (drop (k + 1) (of_id id first)) all) in
        (found.0, subst (λ n. live_at subs n ≡ Some found.0) due.2 found.1, found.2)

    pub is_live : is_some (live_at subs sub) ≡ true
    is_live = ap is_some now.1

    -- after one more
    pub walked_more : (at : Option Dest) (after : Pipes) (left_subs : Subscribed) (got : ℕ) →
        ((s : LiveSubscription) → live_at subs sub ≡ Some s → map row_in after.live ≡ with_pipe (offered_row message (sub_in s)) s.pipe (map row_in pipes.live)) →
        ((s : LiveSubscription) → live_at subs sub ≡ Some s → got ≡ row_takes message (sub_in s) (map row_in pipes.live)) →
        got ≤ 1 → frame after ≡ frame pipes → still left_subs ≡ still subs → AreQueued after.live left_subs →
        at ≡ first_dest (drop (k + 1) (dests_at routing way)) → IfSome at (λ dest. dest.0 < routing.msgids * routing.dests) →
        Walked old first routing id way message (k + 1) at after left_subs (count + got)
    walked_more at after left_subs got rows taken once framed same queued at_is low =
        let s = due.0 in
        let rest = map sub_in (drop (k + 1) (of_id id first)) in
        let here : map sub_in (drop k (of_id id first)) ≡ sub_in s ∷ rest = ap (map sub_in) due.1 in
        let changed : map row_in after.live ≡ with_pipe (offered_row message (sub_in s)) s.pipe (map row_in pipes.live) =
        rows now.0 now.1 ∙ ap (λ t. with_pipe (offered_row message t) t.pipe (map row_in pipes.live)) now.2 in
        let one : got ≡ row_takes message (sub_in s) (map row_in pipes.live) =
        taken now.0 now.1 ∙ ap (λ t. row_takes message t (map row_in pipes.live)) now.2 in
        record {
          at_is = at_is;
          low = low;
          rows = ap (deliver_rows message rest) changed ∙ ap (λ l. deliver_rows message l (map row_in pipes.live)) (sym here) ∙ walked.rows;
          reached =
              add_assoc count got (reached_rows message rest (map row_in after.live))
              ∙ ap (λ n. count + (n + reached_rows message rest (map row_in after.live))) one
              ∙ ap (λ r. count + (row_takes message (sub_in s) (map row_in pipes.live) + reached_rows message rest r)) changed
              ∙ ap (λ l. count + reached_rows message l (map row_in pipes.live)) (sym here)
              ∙ walked.reached;
          few = omega (arith, once, walked.few);
          framed = framed ∙ walked.framed;
          same = same ∙ walked.same;
          queued = queued;
        }

    -- what is told after one more
    pub told_more : (start misses after_misses : Missed) (after : Pipes) → Told old first id message start k pipes misses →
        ((s : LiveSubscription) → live_at subs sub ≡ Some s → after_misses ≡ record misses { items = misses.items ++ row_misses message (sub_in s) (map row_in pipes.live); dropped = misses.dropped ++ row_drops message (sub_in s) (map row_in pipes.live) }) →
        ((s : LiveSubscription) → live_at subs sub ≡ Some s → map row_in after.live ≡ with_pipe (offered_row message (sub_in s)) s.pipe (map row_in pipes.live)) →
        Told old first id message start (k + 1) after after_misses
    told_more start misses after_misses after told missed rows =
        let s = due.0 in
        let rest = map sub_in (drop (k + 1) (of_id id first)) in
        let here : map sub_in (drop k (of_id id first)) ≡ sub_in s ∷ rest = ap (map sub_in) due.1 in
        let changed : map row_in after.live ≡ with_pipe (offered_row message (sub_in s)) s.pipe (map row_in pipes.live) =
        rows now.0 now.1 ∙ ap (λ t. with_pipe (offered_row message t) t.pipe (map row_in pipes.live)) now.2 in
        let one : List Miss = row_misses message (sub_in s) (map row_in pipes.live) in
        let gone : List ItemRow = row_drops message (sub_in s) (map row_in pipes.live) in
        let is : after_misses ≡ record misses { items = misses.items ++ one; dropped = misses.dropped ++ gone } =
        missed now.0 now.1
        ∙ ap (λ t. let m : Missed = record misses { items = misses.items ++ row_misses message t (map row_in pipes.live); dropped = misses.dropped ++ row_drops message t (map row_in pipes.live) } in m) now.2 in
        subst (λ m. Told old first id message start (k + 1) after m) (sym is)
        (record {
          told =
              append_assoc misses.items one (missed_rows message rest (map row_in after.live))
              ∙ ap (λ r. misses.items ++ (one ++ missed_rows message rest r)) changed
              ∙ ap (λ l. misses.items ++ missed_rows message l (map row_in pipes.live)) (sym here)
              ∙ told.told;
          dropped =
              append_assoc misses.dropped gone (dropped_rows message rest (map row_in after.live))
              ∙ ap (λ r. misses.dropped ++ (gone ++ dropped_rows message rest r)) changed
              ∙ ap (λ l. misses.dropped ++ dropped_rows message l (map row_in pipes.live)) (sym here)
              ∙ told.dropped;
          short = omega (arith, length-append misses.items one, one_told message (sub_in s) (map row_in pipes.live), told.short);
          room = told.room;
        })

  -- behind the last
  module _ (k : ℕ) (at : Option Dest) (pipes : Pipes) (subs : Subscribed) (count : ℕ) (walked : Walked old first routing id way message k at pipes subs count) (none : drop k (dests_at routing way) ≡ []) where
    none_due : drop k (of_id id first) ≡ []
    none_due = by_left (drop k (of_id id first)) refl
        (sym (drop-map number_of k (of_id id first)) ∙ ap (drop k) (sym tied) ∙ drop-map (λ dest. dest.1) k (dests_at routing way) ∙ ap (map (λ dest. dest.1)) none)
      where
        by_left : (l : List LiveSubscription) → drop k (of_id id first) ≡ l → map number_of l ≡ [] → drop k (of_id id first) ≡ []
        by_left [] here empty = here
        by_left (s ∷ rest) here some = absurd (cc (some))

    pub all_rows : map row_in pipes.live ≡ deliver_rows message (route (map sub_in first.live) id) (map row_in old.live)
    all_rows =
        ap (λ l. deliver_rows message (map sub_in l) (map row_in pipes.live)) (sym none_due)
        ∙ walked.rows
        ∙ ap (λ l. deliver_rows message l (map row_in old.live)) (sym (route_seen first id))

    pub all_reached : count ≡ reached_rows message (route (map sub_in first.live) id) (map row_in old.live)
    all_reached =
        let zero = ap (λ l. reached_rows message (map sub_in l) (map row_in pipes.live)) none_due in
        omega (arith, zero, walked.reached)
        ∙ ap (λ l. reached_rows message l (map row_in old.live)) (sym (route_seen first id))

    pub all_told : (start misses : Missed) → Told old first id message start k pipes misses →
        misses ≡ record start {
          items = missed_rows message (route (map sub_in first.live) id) (map row_in old.live);
          dropped = dropped_rows message (route (map sub_in first.live) id) (map row_in old.live);
        }
    all_told start misses told =
        ap (λ l. let m : Missed = record { items = l; dropped = misses.dropped; room = misses.room } in m)
        (sym (append-nil misses.items)
        ∙ ap (λ l. misses.items ++ missed_rows message (map sub_in l) (map row_in pipes.live)) (sym none_due)
        ∙ told.told
        ∙ ap (λ l. missed_rows message l (map row_in old.live)) (sym (route_seen first id)))
        ∙ ap (λ l. let m : Missed = record { items = all_missed; dropped = l; room = misses.room } in m)
        (sym (append-nil misses.dropped)
        ∙ ap (λ l. misses.dropped ++ dropped_rows message (map sub_in l) (map row_in pipes.live)) (sym none_due)
        ∙ told.dropped
        ∙ ap (λ l. dropped_rows message l (map row_in old.live)) (sym (route_seen first id)))
        ∙ ap (λ n. let m : Missed = record { items = all_missed; dropped = dropped_rows message (route (map sub_in first.live) id) (map row_in old.live); room = n } in m) told.room
      where
        all_missed : List Miss
        all_missed = missed_rows message (route (map sub_in first.live) id) (map row_in old.live)

-- nothing is left behind the last
pub none_left : (k : ℕ) (dests : List Dest) → first_dest (drop k dests) ≡ None → drop k dests ≡ []
none_left k dests is = by_left (drop k dests) is
  where
    by_left : (left : List Dest) → first_dest left ≡ None → left ≡ []
    by_left [] none = refl
    by_left (d ∷ rest) none = absurd (cc (none))
