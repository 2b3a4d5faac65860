-- What a subscription leaves.
use Rattle.std.proofs.Common.{◌≡◌, ℕ, ◌+◌, ◌%◌, ◌<◌, ◌≤◌, Bool, true, false, ◌&&◌, ◌||◌, not, cond, eqb, leb, add-zero, List, [], ◌∷◌, ◌++◌, length, map, None, refl, ap, sym, ◌∙◌, subst, arith}
use Rattle.std.specs.List.{All, list_any}
use Rattle.std.proofs.lemmas.Bool.{eqb-true}
use Rattle.std.proofs.lemmas.Bool.Decides.{nat_tests}
use Rattle.std.proofs.lemmas.List.{map_push}
use Rattle.std.proofs.lemmas.List.Folds.{list_any-append}
use Rattle.std.proofs.lemmas.List.Elements.{All-push, All-weaker, All-head, All-tail}
use Rattle.fsw_base.specs.Limits.{Limits, limits_of}
use Rattle.fsw_base.specs.Starts.{start_of}
use Rattle.fsw_base.specs.declared.config.Scope.{Scope}
use Rattle.fsw_base.specs.declared.statuses.SbStatus.TheVariants.{BadArgument, MaxMsgsMet, MaxDestsMet}
use Rattle.ccsds_msg.specs.Message.{is_valid_id}
use Rattle.bus_words.specs.declared.calls.BusAnswer.TheVariants.{Done}
use Rattle.bus_words.specs.declared.history.Call.TheVariants.{Subscribe, Unsubscribe}
use Rattle.bus_words.specs.Acts.{NextCount, has_next, first_next}
use Rattle.bus_words.specs.Held.{in_use}
use Rattle.bus_words.specs.Bus.{State, Subscription, owns, is_subscribed, has_route, route}
use Rattle.bus_words.specs.Machine.{subscribe_cause, refused_if}
use Rattle.bus_words.proofs.Finds.{any-map, any-push, same-sym}
use Rattle.bus_words.proofs.Steps.{with_subscription}
use Rattle.bus_counts.specs.Records.{told_event, peaks_raised}
use Rattle.bus_counts.proofs.Leaves.{left, not_subscribed_left}
use Rattle.bus_counts.proofs.Leaves as leaves
use Rattle.bus_events.specs.declared.event.ServiceEvent.TheVariants.{NotSubscribed}
use Rattle.bus_routes.specs.Rows.{RouteRow, ids_of, has_way, with_route}
use Rattle.bus_routes.specs.Tables.{Room}
use Rattle.bus_core.specs.declared.plain.PlainBus.TheInside.{Inside}
use Rattle.bus_core.specs.Inside.{means, AreInOrder}
use Rattle.bus_messages.specs.Store.{Store}
use Rattle.bus_messages.specs.Words.{next_of, nexts_in}
use Rattle.bus_core.specs.Rows.{AreOnce}
use Rattle.bus_core.proofs.CallLaws.{bare, accepted_by}
use Rattle.bus_core.proofs.Refusals.{has_route-rows}

-- Routes. --

-- a new route is a new routed id
ids_of-with_route : (routes : List RouteRow) (id : ℕ) →
    ids_of (with_route routes id) ≡ cond (has_route (ids_of routes) id) (ids_of routes) (ids_of routes ++ id ∷ [])
ids_of-with_route routes id =
    by_test (list_any (λ route. eqb route.id id) routes)
    ∙ ap (λ b. cond {A = List ℕ} b (ids_of routes) (ids_of routes ++ id ∷ [])) (sym (has_route-rows routes id))
  where
    by_test : (b : Bool) → ids_of (cond {A = List RouteRow} b routes (routes ++ record { id = id; counted = 0 } ∷ [])) ≡ cond {A = List ℕ} b (ids_of routes) (ids_of routes ++ id ∷ [])
    by_test true = refl
    by_test false = map_push (λ (route : RouteRow). route.id) routes (record { id = id; counted = 0 })

-- no two routes are of one id
once_pushed : (routes : List RouteRow) (way : RouteRow) → AreOnce routes → has_way routes way.id ≡ false → AreOnce (routes ++ way ∷ [])
once_pushed [] way once none = (refl, tt)
once_pushed (route ∷ routes) way once none = (
  any-push (λ (r : RouteRow). eqb r.id route.id) routes way ∙ ap (λ b. b || eqb way.id route.id) once.0 ∙ same-sym way.id route.id ∙ first (eqb route.id way.id) none,
  once_pushed routes way once.1 (rest (eqb route.id way.id) none),
)
  where
    first : (b : Bool) → (b || has_way routes way.id) ≡ false → b ≡ false
    first true is = absurd (cc (is))
    first false is = refl

    rest : (b : Bool) → (b || has_way routes way.id) ≡ false → has_way routes way.id ≡ false
    rest true is = absurd (cc (is))
    rest false is = is

once_with_route : (routes : List RouteRow) (id : ℕ) → AreOnce routes → AreOnce (with_route routes id)
once_with_route routes id once = by_test (has_way routes id) refl
  where
    by_test : (b : Bool) → has_way routes id ≡ b → AreOnce (cond {A = List RouteRow} b routes (routes ++ record { id = id; counted = 0 } ∷ []))
    by_test true is = once
    by_test false is = once_pushed routes (record { id = id; counted = 0 }) once is

-- an id has a next count if it has a route
has_next-rows : (starts : List (ℕ × ℕ)) (routes : List RouteRow) (id : ℕ) → has_next (map (next_of starts) routes) id ≡ has_way routes id
has_next-rows starts routes id = any-map (λ (n : NextCount). eqb n.id id) (next_of starts) routes

-- a new route's next count is the first
nexts-with_route : (limits : Limits) (routes : List RouteRow) (id : ℕ) →
    map (next_of limits.starts) (with_route routes id)
    ≡ cond (has_next (map (next_of limits.starts) routes) id) (map (next_of limits.starts) routes) (map (next_of limits.starts) routes ++ first_next limits id ∷ [])
nexts-with_route limits routes id =
    by_test (has_way routes id)
    ∙ ap (λ b. cond {A = List NextCount} b (map (next_of limits.starts) routes) (map (next_of limits.starts) routes ++ first_next limits id ∷ [])) (sym (has_next-rows limits.starts routes id))
  where
    by_test : (b : Bool) →
        map (next_of limits.starts) (cond {A = List RouteRow} b routes (routes ++ record { id = id; counted = 0 } ∷ []))
        ≡ cond {A = List NextCount} b (map (next_of limits.starts) routes) (map (next_of limits.starts) routes ++ first_next limits id ∷ [])
    by_test true = refl
    by_test false =
        map_push (next_of limits.starts) routes (record { id = id; counted = 0 })
        ∙ ap (λ n. map (next_of limits.starts) routes ++ record { id = id; next = (n + 1) % 16384 } ∷ []) (add-zero (start_of limits.starts id))

-- the id of a live pair has a route
way_of_pair : (routes : List RouteRow) (subs : List Subscription) (id pipe : ℕ) → All (λ sub. has_way routes sub.id ≡ true) subs →
    is_subscribed subs id pipe ≡ true → has_way routes id ≡ true
way_of_pair routes [] id pipe all live = absurd (cc (live))
way_of_pair routes (sub ∷ subs) id pipe all live =
    by_test (eqb sub.id id) refl (way_of_pair routes subs id pipe (All-tail (λ s. has_way routes s.id ≡ true) sub subs all)) live
  where
    by_test : (b : Bool) → eqb sub.id id ≡ b → (is_subscribed subs id pipe ≡ true → has_way routes id ≡ true) →
        ((b && eqb sub.pipe pipe) || is_subscribed subs id pipe) ≡ true → has_way routes id ≡ true
    by_test true same ih is = ap (has_way routes) (sym (eqb-true sub.id id same)) ∙ All-head (λ s. has_way routes s.id ≡ true) sub subs all
    by_test false same ih is = ih is

-- with the new route each subscription's id has one
ways_kept : (routes next : List RouteRow) (id : ℕ) (subs more : List Subscription) (sub : Subscription) → more ≡ subs ++ sub ∷ [] → sub.id ≡ id → next ≡ with_route routes id →
    All (λ s. has_way routes s.id ≡ true) subs → All (λ s. has_way next s.id ≡ true) more
ways_kept routes next id subs more sub grown same is all =
    let P : List Subscription → Type 0 = λ l. All (λ s. has_way next s.id ≡ true) l in
    subst P (sym grown)
    (All-push (λ s. has_way next s.id ≡ true) subs sub
    (All-weaker (λ s. has_way routes s.id ≡ true) (λ s. has_way next s.id ≡ true)
    (λ s one. ap (λ l. list_any (λ route. eqb route.id s.id) l) is ∙ stays s.id one (list_any (λ route. eqb route.id id) routes)) subs all)
    (ap (λ l. list_any (λ route. eqb route.id sub.id) l) is
    ∙ ap (λ n. list_any (λ route. eqb route.id n) (with_route routes id)) same
    ∙ there (list_any (λ route. eqb route.id id) routes) refl))
  where
    itself : (n : ℕ) → (eqb n n || false) ≡ true
    itself n = grind (arith, nat_tests)

    last : (b : Bool) → (b || true) ≡ true
    last true = refl
    last false = refl

    stays : (n : ℕ) → list_any (λ route. eqb route.id n) routes ≡ true → (b : Bool) →
        list_any (λ route. eqb route.id n) (cond {A = List RouteRow} b routes (routes ++ record { id = id; counted = 0 } ∷ [])) ≡ true
    stays n one true = one
    stays n one false =
        list_any-append (λ (route : RouteRow). eqb route.id n) routes (record { id = id; counted = 0 } ∷ [])
        ∙ ap (λ b. b || list_any (λ (route : RouteRow). eqb route.id n) (record { id = id; counted = 0 } ∷ [])) one

    there : (b : Bool) → list_any (λ route. eqb route.id id) routes ≡ b →
        list_any (λ route. eqb route.id id) (cond {A = List RouteRow} b routes (routes ++ record { id = id; counted = 0 } ∷ [])) ≡ true
    there true has = has
    there false has =
        list_any-append (λ (route : RouteRow). eqb route.id id) routes (record { id = id; counted = 0 } ∷ [])
        ∙ ap (λ b. list_any (λ (route : RouteRow). eqb route.id id) routes || b) (itself id)
        ∙ last (list_any (λ route. eqb route.id id) routes)

-- three refusals, none of which applies
none_applies : (bad lacks full : Bool) → refused_if bad BadArgument (refused_if lacks MaxMsgsMet (refused_if full MaxDestsMet None)) ≡ None → (bad ≡ false) × (lacks ≡ false) × (full ≡ false)
none_applies true lacks full is = absurd (cc (is))
none_applies false true full is = absurd (cc (is))
none_applies false false true is = absurd (cc (is))
none_applies false false false is = (refl, refl, refl)

both_hold : (v o : Bool) → (not v || not o) ≡ false → (v ≡ true) × (o ≡ true)
both_hold true true is = (refl, refl)
both_hold true false is = absurd (cc (is))
both_hold false o is = absurd (cc (is))

where_not : (h l : Bool) → (not h && l) ≡ false → h ≡ false → l ≡ false
where_not true l is lacks = absurd (cc (lacks))
where_not false l is lacks = is

-- what a call finds that isn't refused and makes a subscription
pub record IsFree (limits : Limits) (s : State) (app id pipe : ℕ) : Type 0 where
  pub valid : is_valid_id id ≡ true
  pub own : owns s.pipes app pipe ≡ true
  pub ids : has_route s.routed id ≡ false → length s.routed < limits.msgids
  pub dests : length (route s.subscriptions id) < limits.dests

pub is_free : (limits : Limits) (s : State) (app id pipe : ℕ) → subscribe_cause limits s app id pipe ≡ None → is_subscribed s.subscriptions id pipe ≡ false → IsFree limits s app id pipe
is_free limits s app id pipe none fresh =
    let unfolded =
    sym (ap (λ b. refused_if (not (is_valid_id id) || not (owns s.pipes app pipe)) BadArgument
    (cond b None (refused_if (not (has_route s.routed id) && leb limits.msgids (length s.routed)) MaxMsgsMet (refused_if (leb limits.dests (length (route s.subscriptions id))) MaxDestsMet None)))) fresh)
    ∙ none in
    let parts = none_applies (not (is_valid_id id) || not (owns s.pipes app pipe)) (not (has_route s.routed id) && leb limits.msgids (length s.routed)) (leb limits.dests (length (route s.subscriptions id))) unfolded in
    let both = both_hold (is_valid_id id) (owns s.pipes app pipe) parts.0 in
    record {
      valid = both.0;
      own = both.1;
      ids = λ lacks. below limits.msgids (length s.routed) (where_not (has_route s.routed id) (leb limits.msgids (length s.routed)) parts.1 lacks);
      dests = below limits.dests (length (route s.subscriptions id)) parts.2;
    }
  where
    below : (m n : ℕ) → leb m n ≡ false → n < m
    below m n h = grind (arith, nat_tests)

-- a valid id is in its range
pub id_first : (id : ℕ) → is_valid_id id ≡ true → 1 ≤ id
id_first id valid = grind (arith, nat_tests)

pub id_last : (id : ℕ) → is_valid_id id ≡ true → id ≤ 8191
id_last id valid = grind (arith, nat_tests)

-- Ends of subscriptions. --

-- whether the pair was subscribed is told if it wasn't
pub unsubscribed_left : (a : Inside) (app id pipe : ℕ) (t : State) (there : Bool) → there ≡ is_subscribed a.store.subscriptions id pipe →
    left (limits_of a.config) (means a).bus app (Unsubscribe id pipe) Done t
    ≡ peaks_raised (cond there a.records (told_event a.records (NotSubscribed id pipe))) (in_use (limits_of a.config) t)
unsubscribed_left a app id pipe t true is = leaves.unsubscribed_left (limits_of a.config) (means a).bus app id pipe t (sym is)
unsubscribed_left a app id pipe t false is = not_subscribed_left (limits_of a.config) (means a).bus app id pipe t (sym is)

-- The exits. --

-- the store with one subscription more
abbrev pub with_sub : Store → ℕ → ℕ → ℕ → Scope → Store
with_sub t id pipe limit scope = record t {
  subscriptions = t.subscriptions ++ record { number = t.subscriptions_made + 1; id = id; pipe = pipe; limit = limit; scope = scope } ∷ [];
  subscriptions_made = t.subscriptions_made + 1;
  routes = with_route t.routes id;
}

-- the next counts once the id has one
abbrev with_next : Limits → List NextCount → ℕ → List NextCount
with_next limits nexts id = cond (has_next nexts id) nexts (nexts ++ first_next limits id ∷ [])

module _ (a : Inside) (app id pipe limit : ℕ) (scope : Scope)
    (why : subscribe_cause (limits_of a.config) (means a).bus app id pipe ≡ None) (keeps : AreInOrder a) where
  -- the answer and the state, by whether the pair is live
  made_by : (live : Bool) → is_subscribed a.store.subscriptions id pipe ≡ live →
      bare (limits_of a.config) (means a) app (Subscribe id pipe limit scope)
      ≡ (
        Done,
        record {
          bus = cond {A = State} live (means a).bus (with_subscription (means a).bus id pipe limit scope);
          nexts = with_next (limits_of a.config) (means a).nexts id;
        },
      )
  made_by live is =
      accepted_by (limits_of a.config) (means a) app (Subscribe id pipe limit scope) (subscribe_cause (limits_of a.config) (means a).bus app id pipe) refl why
      ∙ ap (λ b. (
        Done,
        record {
          bus = cond {A = State} b (means a).bus (with_subscription (means a).bus id pipe limit scope);
          nexts = with_next (limits_of a.config) (means a).nexts id;
        },
      )) is

  -- a live pair: nothing changes
  pub live_made : is_subscribed a.store.subscriptions id pipe ≡ true → bare (limits_of a.config) (means a) app (Subscribe id pipe limit scope) ≡ (Done, means a)
  live_made live =
      let way = way_of_pair a.store.routes a.store.subscriptions id pipe keeps.ways live in
      made_by true live
      ∙ ap (λ b. (Done, record (means a) { nexts = cond {A = List NextCount} b (means a).nexts ((means a).nexts ++ first_next (limits_of a.config) id ∷ []) }))
      (has_next-rows a.store.room.starts a.store.routes id ∙ way)

  module _ (next : Store) (is : next ≡ with_sub a.store id pipe limit scope) where
    pub subscribed_keeps : AreInOrder (record a { store = next })
    subscribed_keeps =
        let sub : Subscription = record { number = a.store.subscriptions_made + 1; id = id; pipe = pipe; limit = limit; scope = scope } in
        subst (λ t. AreInOrder (record a { store = t })) (sym is)
        (record {
          room = keeps.room;
          pool = keeps.pool;
          ways = ways_kept a.store.routes (with_route a.store.routes id) id a.store.subscriptions (a.store.subscriptions ++ sub ∷ []) sub refl refl refl keeps.ways;
          once = once_with_route a.store.routes id keeps.once;
          ready = keeps.ready;
          places = keeps.places;
        })

    pub subscribed_made : is_subscribed a.store.subscriptions id pipe ≡ false → bare (limits_of a.config) (means a) app (Subscribe id pipe limit scope) ≡ (Done, means (record a { store = next }))
    subscribed_made fresh =
        let s = (means a).bus in
        let limits = limits_of a.config in
        let starts : a.store.room.starts ≡ limits.starts = ap (λ (r : Room). r.starts) keeps.room in
        let nexts : nexts_in (with_sub a.store id pipe limit scope) ≡ with_next limits (means a).nexts id =
        ap (λ st. map (next_of st) (with_route a.store.routes id)) starts
        ∙ nexts-with_route limits a.store.routes id
        ∙ ap (λ st. with_next limits (map (next_of st) a.store.routes) id) (sym starts) in
        made_by false fresh
        ∙ ap (λ (l : List ℕ). (Done, record { bus = record (with_subscription s id pipe limit scope) { routed = l }; nexts = with_next limits (means a).nexts id })) (sym (ids_of-with_route a.store.routes id))
        ∙ ap (λ (ns : List NextCount). (Done, record { bus = record (with_subscription s id pipe limit scope) { routed = ids_of (with_route a.store.routes id) }; nexts = ns })) (sym nexts)
        ∙ ap (λ t. (Done, means (record a { store = t }))) (sym is)
