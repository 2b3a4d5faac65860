-- What a send leaves.
use Rattle.std.proofs.Common.{◌≡◌, ℕ, ◌+◌, ◌%◌, ◌≤◌, Bool, true, false, ◌||◌, not, cond, eqb, leb, ltb, List, [], ◌∷◌, length, map, Option, Some, None, is_some, refl, ap, sym, ◌∙◌, subst, arith}
use Rattle.std.specs.List.{All, list_any}
use Rattle.std.proofs.lemmas.Bool.{eqb-true}
use Rattle.std.proofs.lemmas.Bool.Decides.{nat_tests}
use Rattle.std.proofs.lemmas.List.Elements.{All-weaker, All-head, All-tail}
use Rattle.fsw_base.proofs.Lists.{list_any-map}
use Rattle.fsw_base.specs.Blocks.{class_of}
use Rattle.fsw_base.specs.Limits.{Limits, limits_of}
use Rattle.fsw_base.specs.PoolAccounts.{Account, has_room, has_room_for, after_draw, after_request, after_request_if}
use Rattle.fsw_base.specs.Starts.{start_of}
use Rattle.fsw_base.specs.declared.statuses.SbStatus.{SbStatus}
use Rattle.fsw_base.specs.declared.statuses.SbStatus.TheVariants.{BadArgument, MsgTooBig, BufAlocErr}
use Rattle.ccsds_msg.specs.Message.{fault, message_id}
use Rattle.bus_words.specs.declared.calls.BusAnswer.{BusAnswer}
use Rattle.bus_words.specs.declared.calls.BusAnswer.TheVariants.{Sent}
use Rattle.bus_words.specs.declared.history.Call.TheVariants.{Transmit}
use Rattle.bus_words.specs.Bus.{State, Subscription, Sending, route, deliver, reached}
use Rattle.bus_words.specs.Events.{miss_events}
use Rattle.bus_words.specs.Held.{account_of, account_drawn}
use Rattle.bus_words.specs.Machine.{transmit_cause, sent_along, refused_if}
use Rattle.bus_words.specs.Acts.{Whole, NextCount, nexts_after, moved_on, completed}
use Rattle.bus_words.specs.declared.miss.Miss.{Miss}
use Rattle.bus_routes.specs.Rows.{RouteRow, ids_of, has_way, counted_on}
use Rattle.bus_counts.specs.Records.{Recordings, told_all}
use Rattle.bus_words.proofs.Bounds.{length-deliver}
use Rattle.bus_messages.specs.Store.{Store}
use Rattle.bus_messages.specs.Words.{next_of, nexts_in, sending_of, missed, counted_up, with_held}
use Rattle.bus_core.specs.declared.plain.PlainBus.TheInside.{Inside}
use Rattle.bus_core.specs.Inside.{means, AreInOrder}
use Rattle.bus_core.specs.Rows.{AreOnce}
use Rattle.bus_core.proofs.Peaks.{AreAsMany, as_many_routes}
use Rattle.bus_core.proofs.Accounts.{IsHeld, account_is}
use Rattle.bus_core.proofs.CallLaws.{bare, accepted_by}
use Rattle.bus_core.proofs.WaitingApplications.{ready_all, ready_sent}
use Rattle.bus_core.proofs.Refusals.{message_least}

-- Causes. --

-- a send that isn't refused is of a message
pub long_enough : (limits : Limits) (s : State) (bytes : List ℕ) → transmit_cause limits s bytes ≡ None → 7 ≤ length bytes
long_enough limits s bytes none =
    message_least bytes
    (passes (is_some (fault bytes)) (ltb limits.msgmax (length bytes)) (cond (eqb (length (route s.subscriptions (message_id bytes))) 0) None (refused_if (not (has_room (account_of limits s) (length bytes))) BufAlocErr None)) none)
  where
    passes : (bad big : Bool) (others : Option SbStatus) → refused_if bad BadArgument (refused_if big MsgTooBig others) ≡ None → not bad ≡ true
    passes true big others is = absurd (cc (is))
    passes false big others is = refl

-- Counts of routes. --

-- counting keeps the ids
ids_of-counted_on : (routes : List RouteRow) (id : ℕ) → ids_of (counted_on routes id) ≡ ids_of routes
ids_of-counted_on [] id = refl
ids_of-counted_on (way ∷ routes) id = by_test (eqb way.id id) (ids_of-counted_on routes id)
  where
    by_test : (b : Bool) → ids_of (counted_on routes id) ≡ ids_of routes → ids_of (cond {A = List RouteRow} b (record way { counted = (way.counted + 1) % 16384 } ∷ routes) (way ∷ counted_on routes id)) ≡ way.id ∷ ids_of routes
    by_test true ih = refl
    by_test false ih = ap (λ l. way.id ∷ l) ih

pub ids_of-counted_up : (routes : List RouteRow) (id : ℕ) (inc : Bool) → ids_of (counted_up routes id inc) ≡ ids_of routes
ids_of-counted_up routes id false = refl
ids_of-counted_up routes id true = ids_of-counted_on routes id

-- and each id that has a route keeps it
pub has_route-counted_up : (routes : List RouteRow) (id n : ℕ) (inc : Bool) → has_way (counted_up routes id inc) n ≡ has_way routes n
has_route-counted_up routes id n inc =
    sym (list_any-map (λ other. eqb other n) (λ (route : RouteRow). route.id) (counted_up routes id inc))
    ∙ ap (list_any (λ other. eqb other n)) (ids_of-counted_up routes id inc)
    ∙ list_any-map (λ other. eqb other n) (λ (route : RouteRow). route.id) routes

-- an id with a live subscription has a route
pub way_of : (routes : List RouteRow) (subs : List Subscription) (id : ℕ) (first : Subscription) (more : List Subscription) →
    All (λ sub. has_way routes sub.id ≡ true) subs → route subs id ≡ first ∷ more → has_way routes id ≡ true
way_of routes [] id first more all is = absurd (cc (is))
way_of routes (sub ∷ subs) id first more all is =
    by_test (eqb sub.id id) refl (way_of routes subs id first more (All-tail (λ s. has_way routes s.id ≡ true) sub subs all)) is
  where
    by_test : (b : Bool) → eqb sub.id id ≡ b → (route subs id ≡ first ∷ more → has_way routes id ≡ true) →
        cond {A = List Subscription} b (sub ∷ route subs id) (route subs id) ≡ first ∷ more → has_way routes id ≡ true
    by_test true same rest here =
        ap (λ n. has_way routes n) (sym (eqb-true sub.id id same)) ∙ All-head (λ s. has_way routes s.id ≡ true) sub subs all
    by_test false same rest here = rest here

one_on : (start counted : ℕ) → ((start + counted + 1) % 16384 + 1) % 16384 ≡ (start + (counted + 1) % 16384 + 1) % 16384
one_on start counted = omega arith

-- other ids' counts stay if the id has no route
moved_none : (starts : List (ℕ × ℕ)) (routes : List RouteRow) (id : ℕ) → has_way routes id ≡ false → map (moved_on id) (map (next_of starts) routes) ≡ map (next_of starts) routes
moved_none starts [] id none = refl
moved_none starts (way ∷ routes) id none = by_test (eqb way.id id) none (moved_none starts routes id)
  where
    by_test : (b : Bool) → (b || has_way routes id) ≡ false → (has_way routes id ≡ false → map (moved_on id) (map (next_of starts) routes) ≡ map (next_of starts) routes) →
        cond {A = NextCount} b (record (next_of starts way) { next = ((next_of starts way).next + 1) % 16384 }) (next_of starts way) ∷ map (moved_on id) (map (next_of starts) routes)
        ≡ next_of starts way ∷ map (next_of starts) routes
    by_test true some ih = absurd (cc (some))
    by_test false rest ih = ap (λ (ns : List NextCount). next_of starts way ∷ ns) (ih rest)

-- the route that counts is the next count that moves on
pub moved_counted : (starts : List (ℕ × ℕ)) (routes : List RouteRow) (id : ℕ) → AreOnce routes → map (moved_on id) (map (next_of starts) routes) ≡ map (next_of starts) (counted_on routes id)
moved_counted starts [] id once = refl
moved_counted starts (way ∷ routes) id once = by_test (eqb way.id id) refl (moved_counted starts routes id once.1)
  where
    by_test : (b : Bool) → eqb way.id id ≡ b → map (moved_on id) (map (next_of starts) routes) ≡ map (next_of starts) (counted_on routes id) →
        cond {A = NextCount} b (record (next_of starts way) { next = ((next_of starts way).next + 1) % 16384 }) (next_of starts way) ∷ map (moved_on id) (map (next_of starts) routes)
        ≡ map (next_of starts) (cond {A = List RouteRow} b (record way { counted = (way.counted + 1) % 16384 } ∷ routes) (way ∷ counted_on routes id))
    by_test true is ih =
        ap (λ (n : ℕ). record { id = way.id; next = n } ∷ map (moved_on id) (map (next_of starts) routes)) (one_on (start_of starts way.id) way.counted)
        ∙ ap (λ (ns : List NextCount). next_of starts (record way { counted = (way.counted + 1) % 16384 }) ∷ ns)
        (moved_none starts routes id (ap (has_way routes) (sym (eqb-true way.id id is)) ∙ once.0))
    by_test false is ih = ap (λ (ns : List NextCount). next_of starts way ∷ ns) ih

pub once_by_ids : (routes others : List RouteRow) → ids_of others ≡ ids_of routes → AreOnce routes → AreOnce others
once_by_ids [] [] same once = tt
once_by_ids [] (way ∷ others) same once = absurd (cc (same))
once_by_ids (route ∷ routes) [] same once = absurd (cc (same))
once_by_ids (route ∷ routes) (way ∷ others) same once =
    let heads : way.id ≡ route.id = cc (same) in
    let tails : ids_of others ≡ ids_of routes = cc (same) in (
      sym (list_any-map (λ other. eqb other way.id) (λ (r : RouteRow). r.id) others)
          ∙ ap (list_any (λ other. eqb other way.id)) tails
          ∙ list_any-map (λ other. eqb other way.id) (λ (r : RouteRow). r.id) routes
          ∙ ap (has_way routes) heads
          ∙ once.0,
      once_by_ids routes others tails once.1,
    )

-- The pool. --

-- a request stays with its pool
pub request_stays : (account : Account) (size : ℕ) → after_request account size ≡ record (after_request account size) { bytes = account.bytes; sizes = account.sizes; errors = account.errors }
request_stays account size = by_class (class_of size account.sizes)
  where
    by_room : (class : ℕ) (b : Bool) → let v : Account = cond {A = Account} b (after_draw account class) account in v ≡ record v { bytes = account.bytes; sizes = account.sizes; errors = account.errors }
    by_room class true = refl
    by_room class false = refl

    by_class : (o : Option ℕ) → after_request_if account o ≡ record (after_request_if account o) { bytes = account.bytes; sizes = account.sizes; errors = account.errors }
    by_class None = refl
    by_class (Some class) = by_room class (has_room_for account class 1)

-- Sends along subscriptions. --

-- a send along a subscription
along : (limits : Limits) (subs : List Subscription) (first : Subscription) (more : List Subscription) (sending : Sending) (s : State) → subs ≡ first ∷ more →
    sent_along limits subs sending s
    ≡ (
      Sent sending.number (reached sending subs s.pipes),
      record s {
        pipes = deliver sending subs s.pipes;
        numbers_given = sending.number;
        made = (account_drawn limits s sending.asked).made;
        drawn = (account_drawn limits s sending.asked).requests;
      },
    )
along limits [] first more sending s is = absurd (cc (is))
along limits (sub ∷ subs) first more sending s is = refl

-- a list that isn't empty, by its first and its rest
pub record IsSome (subs : List Subscription) : Type 0 where
  pub first : Subscription
  pub more : List Subscription
  pub is : subs ≡ first ∷ more

pub some_of : (subs : List Subscription) → (length subs ≡ 0 → ⊥) → IsSome subs
some_of [] some = absurd (some refl)
some_of (sub ∷ subs) some = record { first = sub; more = subs; is = refl }

-- The exits. --

-- a send that nobody subscribes to
pub nobody_made : (a : Inside) (app : ℕ) (bytes : List ℕ) (inc : Bool) → transmit_cause (limits_of a.config) (means a).bus bytes ≡ None → route a.store.subscriptions (message_id bytes) ≡ [] →
    bare (limits_of a.config) (means a) app (Transmit bytes inc) ≡ (Sent 0 0, means a)
nobody_made a app bytes inc why nobody =
    let limits = limits_of a.config in
    let w = means a in
    accepted_by limits w app (Transmit bytes inc) (transmit_cause limits w.bus bytes) refl why
    ∙ ap (λ subs. completed limits w (Transmit bytes inc) (sent_along limits subs (sending_of a.store app bytes inc) w.bus)) nobody
    ∙ ap (λ (ns : List NextCount). (Sent 0 0, record w { nexts = ns })) (still inc)
  where
    still : (counts : Bool) → nexts_after (limits_of a.config) (nexts_in a.store) (Transmit bytes counts) (Sent 0 0) ≡ nexts_in a.store
    still true = refl
    still false = refl

-- the store after a send
abbrev pub with_send : Store → Store → ℕ → List ℕ → Bool → Store
with_send store next app bytes inc = record store {
  pipes = deliver (sending_of store app bytes inc) (route store.subscriptions (message_id bytes)) store.pipes;
  routes = counted_up store.routes (message_id bytes) inc;
  missed = missed (sending_of store app bytes inc) (route store.subscriptions (message_id bytes)) store.pipes;
  numbers_given = store.numbers_given + 1;
  account = with_held (after_request store.account (length bytes)) next.pipes store.unsent next.numbers_given;
}

module _ (a : Inside) (next : Store) (app : ℕ) (bytes : List ℕ) (inc : Bool) (is : next ≡ with_send a.store next app bytes inc) (keeps : AreInOrder a) where
  abbrev subs : List Subscription
  subs = route a.store.subscriptions (message_id bytes)

  abbrev sending : Sending
  sending = sending_of a.store app bytes inc

  pub sent_keeps : AreInOrder (record a { store = next })
  sent_keeps =
      let id = message_id bytes in
      let stays = request_stays a.store.account (length bytes) in
      subst (λ t. AreInOrder (record a { store = t })) (sym is)
      (record {
        room = keeps.room;
        pool = record {
          bytes = ap (λ (c : Account). c.bytes) stays ∙ keeps.pool.bytes;
          sizes = ap (λ (c : Account). c.sizes) stays ∙ keeps.pool.sizes;
          errors = ap (λ (c : Account). c.errors) stays ∙ keeps.pool.errors;
        };
        ways =
            All-weaker (λ sub. has_way a.store.routes sub.id ≡ true) (λ sub. has_way (counted_up a.store.routes id inc) sub.id ≡ true)
            (λ sub one. has_route-counted_up a.store.routes id sub.id inc ∙ one) a.store.subscriptions keeps.ways;
        once = once_by_ids a.store.routes (counted_up a.store.routes id inc) (ids_of-counted_up a.store.routes id inc) keeps.once;
        ready = ready_all a.store.pipes (deliver sending subs a.store.pipes) a.activities.items keeps.ready (λ user pipe ready. ready_sent sending subs a.store.pipes user pipe ready);
        places = keeps.places;
      })

  pub sent_made : (first : Subscription) (more : List Subscription) (number arrived : ℕ) → subs ≡ first ∷ more → transmit_cause (limits_of a.config) (means a).bus bytes ≡ None →
      IsHeld a.store → number ≡ a.store.numbers_given + 1 → arrived ≡ reached sending subs a.store.pipes →
      bare (limits_of a.config) (means a) app (Transmit bytes inc) ≡ (Sent number arrived, means (record a { store = next }))
  sent_made first more number arrived someone why held numbered arrives =
      let limits = limits_of a.config in
      let w = means a in
      let s = w.bus in
      let given = a.store.numbers_given + 1 in
      let answer : BusAnswer = Sent given (reached sending subs s.pipes) in
      let to : Account → List NextCount → Whole = λ account nexts. record {
        bus = record s { pipes = deliver sending subs s.pipes; numbers_given = given; made = account.made; drawn = account.requests };
        nexts = nexts;
      } in
      let counted = map (next_of a.store.room.starts) (counted_up a.store.routes (message_id bytes) inc) in
      accepted_by limits w app (Transmit bytes inc) (transmit_cause limits s bytes) refl why
      ∙ ap (completed limits w (Transmit bytes inc)) (along limits subs first more sending s someone)
      ∙ ap (λ (ns : List NextCount). (answer, to (account_drawn limits s (length bytes)) ns)) (moved inc)
      ∙ ap (λ c. (answer, to (after_request c (length bytes)) counted)) (sym (account_is a keeps.pool held))
      ∙ sym
      (ap (λ n. (Sent n arrived, means (record a { store = next }))) numbered
      ∙ ap (λ n. (Sent given n, means (record a { store = next }))) arrives
      ∙ ap (λ t. (answer, means (record a { store = t }))) is
      ∙ ap (λ (l : List ℕ). (answer, record { bus = record (to (after_request a.store.account (length bytes)) counted).bus { routed = l }; nexts = counted })) (ids_of-counted_up a.store.routes (message_id bytes) inc))
    where
      some : leb 1 (a.store.numbers_given + 1) ≡ true
      some = grind (arith, nat_tests)

      moved : (counts : Bool) → nexts_after (limits_of a.config) (nexts_in a.store) (Transmit bytes counts) (Sent (a.store.numbers_given + 1) (reached sending subs a.store.pipes))
          ≡ map (next_of a.store.room.starts) (counted_up a.store.routes (message_id bytes) counts)
      moved false = refl
      moved true =
          ap (λ b. cond {A = List NextCount} b (map (moved_on (message_id bytes)) (nexts_in a.store)) (nexts_in a.store)) some
          ∙ moved_counted a.store.room.starts a.store.routes (message_id bytes) keeps.once

  -- what is told of the pipes that the store tells of
  pub sent_told : (told : Recordings) (id : ℕ) (misses : List Miss) → id ≡ message_id bytes → misses ≡ next.missed → told ≡ told_all a.records (miss_events id app misses) →
      told ≡ told_all a.records (miss_events (message_id bytes) app (missed sending subs a.store.pipes))
  sent_told told id misses same lists is_told =
      is_told
      ∙ ap (λ n. told_all a.records (miss_events n app misses)) same
      ∙ ap (λ l. told_all a.records (miss_events (message_id bytes) app l)) (lists ∙ ap (λ (t : Store). t.missed) is)

  -- as many pipes, ids and subscriptions are in use as before
  pub sent_many : AreAsMany a.store next
  sent_many = record {
    routes = ap (λ (o : Store). length o.routes) is ∙ as_many_routes a.store.routes (counted_up a.store.routes (message_id bytes) inc) (ids_of-counted_up a.store.routes (message_id bytes) inc);
    pipes = ap (λ (o : Store). length o.pipes) is ∙ length-deliver sending subs a.store.pipes;
    subs = ap (λ (o : Store). length o.subscriptions) is;
  }
