-- The state that is enough by itself: a fold of a legal history gives it, and what it answers is what the history's step answers.
use Rattle.std.proofs.Common.{◌≡◌, ℕ, ◌+◌, ◌%◌, ◌==◌, ◌&&◌, ◌||◌, not, Bool, true, false, cond, if◌then◌else◌, add-zero, zero-add, append-nil, append_assoc, List, [], ◌∷◌, ◌++◌, length, map, Option, Some, None, refl, ap, sym, ◌∙◌, subst, arith, true≢false}
use Rattle.std.specs.Prelude.{count_by, nat_le, find}
use Rattle.std.specs.List.{list_any}
use Rattle.std.specs.Option.{option_map_or}
use Rattle.std.proofs.lemmas.Bool.{eqb-true}
use Rattle.std.proofs.lemmas.Bool.Decides.{nat_tests}
use Rattle.std.proofs.lemmas.List.{map_push}
use Rattle.std.proofs.lemmas.List.Sums.{sum_by-append}
use Rattle.ccsds_msg.specs.Message.{message_id, message_size, with_count}
use Rattle.ccsds_msg.proofs.MessageLemmas.{header_of-take}
use Rattle.fsw_base.specs.declared.config.Scope.{Scope}
use Rattle.fsw_base.specs.Limits.{Limits}
use Rattle.fsw_base.specs.Starts.{start_of}
use Rattle.housekeeping.specs.Packet.{housekeeping_id}
use Rattle.housekeeping.proofs.PacketLemmas.{message_id-housekeeping_packet}
use Rattle.bus_words.specs.declared.calls.BusAnswer.{BusAnswer}
use Rattle.bus_words.specs.declared.calls.BusAnswer.TheVariants.{Done, Sent}
use Rattle.bus_words.specs.declared.history.Call.{Call}
use Rattle.bus_words.specs.declared.history.Call.TheVariants.{Create, Delete, SetOpts, GetOpts, Find, PipeName, Subscribe, Unsubscribe, Transmit, Receive, Pend, Look, Allocate, TransmitBuffer, Release, PoolCreate, PoolGet, PoolPut, PoolFigures, Register, SendEvent, ResetFilter, LogMode, ClearLog, Housekeeping, Figures, End}
use Rattle.bus_words.specs.declared.history.Entry.{Entry}
use Rattle.bus_words.specs.Bus.{Subscription, State, Sending, Active, Waiting, opening, with_standing, is_empty, others_idle, route, is_subscribed, has_route, reached, unsent_size, deliver}
use Rattle.bus_words.specs.Refusals.{Refusal, OfBus, OfPools, OfEvents, refusal_answer}
use Rattle.bus_words.specs.Held.{in_use}
use Rattle.bus_words.specs.Machine.{Reads, sending_from, packet_in, recorded, reads_after, counts_for, next_count, stamped, front_of, delivered, sent_along, transmitted, buffer_gone, passed_along, buffer_transmitted, received, refused_state, accept, accept_with, decided, decided_with, cause, step, step_with, state_from, state_after, LegalFrom, IsLegal}
use Rattle.bus_words.specs.Acts.{NextCount, Whole, AreAlike, reads_in, next_in, has_next, moved_on, first_next, nexts_after, completed, act, whole_from, whole_after, nexts_of, whole_of}
use Rattle.bus_words.proofs.Finds.{Each, Each-push, Each-drop, Each-filter, any-push, any-map, same-self, same-sym}
use Rattle.bus_words.proofs.Steps.{after_step, after_refusal, after_choice, with_subscription, with_sent, state_from-keeps}

-- Ids that have a route. --

-- with one more
abbrev pub with_id : List ℕ → ℕ → List ℕ
with_id routed id = if has_route routed id then routed else routed ++ id ∷ []

pub has_route-kept : (routed : List ℕ) (id n : ℕ) → has_route routed n ≡ true → has_route (with_id routed id) n ≡ true
has_route-kept routed id n there =
    elim (has_route routed id) as (λ b. has_route (cond {A = List ℕ} b routed (routed ++ id ∷ [])) n ≡ true) [
      | true ↦ there
      | false ↦ any-push (λ (other : ℕ). other == n) routed id ∙ ap (λ b. b || (id == n)) there
    ]

pub has_route-here : (routed : List ℕ) (id : ℕ) → has_route (with_id routed id) id ≡ true
has_route-here routed id =
    elim (has_route routed id) as (λ b. has_route routed id ≡ b → has_route (cond {A = List ℕ} b routed (routed ++ id ∷ [])) id ≡ true) [
      | true ↦ λ is. is
      | false ↦ λ is. any-push (λ (other : ℕ). other == id) routed id ∙ ap (λ b. b || (id == id)) is ∙ same-self id
    ] refl

-- each live subscription's id has a route
abbrev pub HaveWays : State → Type 0
HaveWays s = Each (λ sub. has_route s.routed sub.id ≡ true) s.subscriptions

pub HaveWays-step : (limits : Limits) (history : List Entry) (s : State) (app : ℕ) (call : Call) → HaveWays s → HaveWays ((step limits history s app call).1)
HaveWays-step limits history s app call ways =
    let Way : Subscription → Type 0 = λ sub. has_route s.routed sub.id ≡ true in
    after_step HaveWays limits history s app call (record {
      same = ways;
      creates = λ depth name none. ways;
      subscribes = λ id pipe limit scope none other.
          let more : Subscription → Type 0 = λ sub. has_route (with_id s.routed id) sub.id ≡ true in
          Each-push more s.subscriptions _ (Each-drop Way more s.subscriptions (λ sub is. has_route-kept s.routed id sub.id is) ways) (has_route-here s.routed id);
      sends = λ sending id who number room. ways;
      receives = λ pipe. ways;
      deletes = λ pipe none. Each-filter Way (λ x. not (x.pipe == pipe)) s.subscriptions ways;
      sets = λ pipe bits none. ways;
      unsubscribes = λ id pipe none. Each-filter Way (λ x. not (x.id == id && x.pipe == pipe)) s.subscriptions ways;
      stands = λ pipe standing going. ways;
      ends = Each-filter Way _ s.subscriptions ways;
      pools = λ next follows. ways;
      allocates = λ size none. ways;
      leaves = λ buf has. ways;
      records = λ t desk statistics is. is;
      passes = λ sending id who has asked. ways;
    })

-- a subscription of an id, whatever else is asked of it, shows the id's route
way_of_any : (routed : List ℕ) (id : ℕ) (asks : Subscription → Bool) (subs : List Subscription) → Each (λ sub. has_route routed sub.id ≡ true) subs →
    list_any (λ sub. sub.id == id && asks sub) subs ≡ true → has_route routed id ≡ true
way_of_any routed id asks [] ways some = absurd (true≢false (sym some))
way_of_any routed id asks (sub ∷ subs) ways some =
    elim (sub.id == id) as (λ b. (sub.id == id) ≡ b → ((b && asks sub) || list_any (λ x. x.id == id && asks x) subs) ≡ true → has_route routed id ≡ true) [
      | true ↦ λ is any. ap (has_route routed) (sym (eqb-true sub.id id is)) ∙ ways.0
      | false ↦ λ is any. way_of_any routed id asks subs ways.1 any
    ] refl some

-- an id with a live subscription has a route
way_of : (routed : List ℕ) (id : ℕ) (subs : List Subscription) (first : Subscription) (more : List Subscription) →
    Each (λ sub. has_route routed sub.id ≡ true) subs → route subs id ≡ first ∷ more → has_route routed id ≡ true
way_of routed id [] first more ways is = absurd (cc (is))
way_of routed id (sub ∷ subs) first more ways is =
    elim (sub.id == id) as (λ b. (sub.id == id) ≡ b → cond {A = List Subscription} b (sub ∷ route subs id) (route subs id) ≡ first ∷ more → has_route routed id ≡ true) [
      | true ↦ λ same here. ap (has_route routed) (sym (eqb-true sub.id id same)) ∙ ways.0
      | false ↦ λ same here. way_of routed id subs first more ways.1 here
    ] refl is

-- Readings that are alike give one cause and one step. --

sends_alike : (reads other : Reads) (limits : Limits) (s : State) (app : ℕ) (bytes : List ℕ) (inc : Bool) → AreAlike reads other s → HaveWays s →
    transmitted reads limits s app bytes inc ≡ transmitted other limits s app bytes inc
sends_alike reads other limits s app bytes inc same ways = by_route (route s.subscriptions (message_id bytes)) refl
  where
    stamp : (counts : Bool) → has_route s.routed (message_id bytes) ≡ true → stamped reads bytes counts ≡ stamped other bytes counts
    stamp true there = ap (with_count bytes) (same.next (message_id bytes) there)
    stamp false there = refl

    by_route : (subs : List Subscription) → route s.subscriptions (message_id bytes) ≡ subs →
        sent_along limits subs (record { sender = app; number = s.numbers_given + 1; asked = length bytes; message = stamped reads bytes inc }) s
        ≡ sent_along limits subs (record { sender = app; number = s.numbers_given + 1; asked = length bytes; message = stamped other bytes inc }) s
    by_route [] is = refl
    by_route (first ∷ more) is =
        ap (λ m. sent_along limits (first ∷ more) (record { sender = app; number = s.numbers_given + 1; asked = length bytes; message = m }) s)
        (stamp inc (way_of s.routed (message_id bytes) s.subscriptions first more ways is))

-- the message that bytes begin with has their id
id-front : (bytes : List ℕ) → message_id (front_of bytes) ≡ message_id bytes
id-front bytes = ap (λ h. h.id) (header_of-take (message_size bytes) bytes (omega arith))

buffers_alike : (reads other : Reads) (s : State) (app buf : ℕ) (bytes : List ℕ) (inc : Bool) → AreAlike reads other s → HaveWays s →
    buffer_transmitted reads s app buf bytes inc ≡ buffer_transmitted other s app buf bytes inc
buffers_alike reads other s app buf bytes inc same ways = by_route (route s.subscriptions (message_id bytes)) refl
  where
    stamp : (counts : Bool) → has_route s.routed (message_id bytes) ≡ true → stamped reads (front_of bytes) counts ≡ stamped other (front_of bytes) counts
    stamp true there = ap (with_count (front_of bytes)) (same.next (message_id (front_of bytes)) (ap (has_route s.routed) (id-front bytes) ∙ there))
    stamp false there = refl

    by_route : (subs : List Subscription) → route s.subscriptions (message_id bytes) ≡ subs →
        passed_along subs (record { sender = app; number = buf; asked = unsent_size s.unsent app buf; message = stamped reads (front_of bytes) inc }) (buffer_gone s app buf)
        ≡ passed_along subs (record { sender = app; number = buf; asked = unsent_size s.unsent app buf; message = stamped other (front_of bytes) inc }) (buffer_gone s app buf)
    by_route [] is = refl
    by_route (first ∷ more) is =
        ap (λ m. passed_along (first ∷ more) (record { sender = app; number = buf; asked = unsent_size s.unsent app buf; message = m }) (buffer_gone s app buf))
        (stamp inc (way_of s.routed (message_id bytes) s.subscriptions first more ways is))

accepts_alike : (reads other : Reads) (limits : Limits) (s : State) (app : ℕ) (call : Call) → AreAlike reads other s → HaveWays s →
    accept_with reads limits s app call ≡ accept_with other limits s app call
accepts_alike reads other limits s app (Create depth name) same ways = refl
accepts_alike reads other limits s app (Delete pipe) same ways = refl
accepts_alike reads other limits s app (SetOpts pipe bits) same ways = refl
accepts_alike reads other limits s app (GetOpts pipe) same ways = refl
accepts_alike reads other limits s app (Find name) same ways = refl
accepts_alike reads other limits s app (PipeName pipe) same ways = refl
accepts_alike reads other limits s app (Subscribe id pipe limit scope) same ways = refl
accepts_alike reads other limits s app (Unsubscribe id pipe) same ways = refl
accepts_alike reads other limits s app (Transmit bytes inc) same ways = sends_alike reads other limits s app bytes inc same ways
accepts_alike reads other limits s app (Receive pipe) same ways = refl
accepts_alike reads other limits s app (Pend pipe) same ways = refl
accepts_alike reads other limits s app (Look pipe) same ways = refl
accepts_alike reads other limits s app (Allocate size) same ways = refl
accepts_alike reads other limits s app (TransmitBuffer buf bytes inc) same ways = buffers_alike reads other s app buf bytes inc same ways
accepts_alike reads other limits s app (Release buf) same ways = refl
accepts_alike reads other limits s app (PoolCreate bytes) same ways = refl
accepts_alike reads other limits s app (PoolGet pool size) same ways = refl
accepts_alike reads other limits s app (PoolPut pool grant) same ways = refl
accepts_alike reads other limits s app (PoolFigures pool) same ways = refl
accepts_alike reads other limits s app (Register filters) same ways = refl
accepts_alike reads other limits s app (SendEvent event kind text) same ways = refl
accepts_alike reads other limits s app (ResetFilter event) same ways = refl
accepts_alike reads other limits s app (LogMode mode) same ways = refl
accepts_alike reads other limits s app ClearLog same ways = refl
accepts_alike reads other limits s app Housekeeping same ways = sends_alike reads other limits s app (packet_in limits s) true same ways
accepts_alike reads other limits s app Figures same ways = refl
accepts_alike reads other limits s app End same ways = refl

-- the housekeeping packet's id
pub id-packet : (limits : Limits) (s : State) → message_id (packet_in limits s) ≡ housekeeping_id
id-packet limits s = message_id-housekeeping_packet s.statistics.counts (in_use limits s)

pub steps_alike : (reads other : Reads) (limits : Limits) (s : State) (app : ℕ) (call : Call) → AreAlike reads other s → HaveWays s →
    step_with reads limits s app call ≡ step_with other limits s app call
steps_alike reads other limits s app call same ways =
    ap (recorded limits s app call) (by_cause (cause limits s app call))
  where
    by_cause : (why : Option Refusal) → decided_with reads limits s app call why ≡ decided_with other limits s app call why
    by_cause (Some why) = refl
    by_cause None = accepts_alike reads other limits s app call same ways

-- Next counts. --

-- how many sends of a history moved the id's count
abbrev pub counted_sends : List Entry → ℕ → ℕ
counted_sends history id = count_by (λ e. counts_for id e.call e.answer) history

counted_more : (history : List Entry) (e : Entry) (id : ℕ) → counted_sends (history ++ e ∷ []) id ≡ counted_sends history id + cond (counts_for id e.call e.answer) 1 0
counted_more history e id =
    sum_by-append (λ (x : Entry). cond {A = ℕ} (counts_for id x.call x.answer) 1 0) history (e ∷ [])
    ∙ ap (λ n. counted_sends history id + n) (zero-add (cond {A = ℕ} (counts_for id e.call e.answer) 1 0))

counted_still : (history : List Entry) (e : Entry) (id : ℕ) → counts_for id e.call e.answer ≡ false → counted_sends (history ++ e ∷ []) id ≡ counted_sends history id
counted_still history e id silent =
    counted_more history e id ∙ ap (λ b. counted_sends history id + cond {A = ℕ} b 1 0) silent ∙ add-zero (counted_sends history id)

counted_same : (history : List Entry) (e f : Entry) (id : ℕ) → counts_for id e.call e.answer ≡ counts_for id f.call f.answer →
    counted_sends (history ++ e ∷ []) id ≡ counted_sends (history ++ f ∷ []) id
counted_same history e f id same =
    counted_more history e id ∙ ap (λ b. counted_sends history id + cond {A = ℕ} b 1 0) same ∙ sym (counted_more history f id)

-- the routed ids' next counts, read off a history, are found
pub next_in-nexts_of : (limits : Limits) (history : List Entry) (ids : List ℕ) (id : ℕ) → has_route ids id ≡ true →
    next_in (nexts_of limits history ids) id ≡ next_count limits history id
next_in-nexts_of limits history [] id there = absurd (true≢false (sym there))
next_in-nexts_of limits history (x ∷ ids) id there =
    let now : ℕ → NextCount = λ i. record { id = i; next = next_count limits history i } in
    elim (x == id) as (λ b. (x == id) ≡ b → (b || has_route ids id) ≡ true →
    option_map_or {U = ℕ} (λ (n : NextCount). n.next) (cond {A = Option NextCount} b (Some (now x)) (find (λ (n : NextCount). n.id == id) (map now ids))) 0 ≡ next_count limits history id) [
      | true ↦ λ is some. ap (next_count limits history) (eqb-true x id is)
      | false ↦ λ is some. next_in-nexts_of limits history ids id some
    ] refl there

has_next-nexts_of : (limits : Limits) (history : List Entry) (ids : List ℕ) (id : ℕ) → has_next (nexts_of limits history ids) id ≡ has_route ids id
has_next-nexts_of limits history ids id = any-map (λ (n : NextCount). n.id == id) (λ (i : ℕ). record { id = i; next = next_count limits history i }) ids

-- so the reading of the state that a history is read as is the history's
pub reads_alike : (limits : Limits) (history : List Entry) (s : State) → AreAlike (reads_in (whole_of limits history s)) (reads_after limits history) s
reads_alike limits history s = record { next = λ id there. next_in-nexts_of limits history s.routed id there }

-- an entry that moves no count leaves them
nexts_still : (limits : Limits) (history : List Entry) (e : Entry) (ids : List ℕ) → ((id : ℕ) → counts_for id e.call e.answer ≡ false) →
    nexts_of limits (history ++ e ∷ []) ids ≡ nexts_of limits history ids
nexts_still limits history e [] silent = refl
nexts_still limits history e (id ∷ ids) silent =
    ap (λ (n : ℕ). record { id = id; next = (start_of limits.starts id + n + 1) % 16384 } ∷ nexts_of limits (history ++ e ∷ []) ids) (counted_still history e id (silent id))
    ∙ ap (λ (ns : List NextCount). record { id = id; next = next_count limits history id } ∷ ns) (nexts_still limits history e ids silent)

-- entries that move the same counts leave the same
nexts_same : (limits : Limits) (history : List Entry) (e f : Entry) (ids : List ℕ) → ((id : ℕ) → counts_for id e.call e.answer ≡ counts_for id f.call f.answer) →
    nexts_of limits (history ++ e ∷ []) ids ≡ nexts_of limits (history ++ f ∷ []) ids
nexts_same limits history e f [] same = refl
nexts_same limits history e f (id ∷ ids) same =
    ap (λ (n : ℕ). record { id = id; next = (start_of limits.starts id + n + 1) % 16384 } ∷ nexts_of limits (history ++ e ∷ []) ids) (counted_same history e f id (same id))
    ∙ ap (λ (ns : List NextCount). record { id = id; next = next_count limits (history ++ f ∷ []) id } ∷ ns) (nexts_same limits history e f ids same)

one_more : (start counted : ℕ) → ((start + counted + 1) % 16384 + 1) % 16384 ≡ (start + (counted + 1) + 1) % 16384
one_more start counted = omega arith

-- an entry that moves one id's count moves that one on
nexts_moved : (limits : Limits) (history : List Entry) (e : Entry) (moved : ℕ) (ids : List ℕ) → ((id : ℕ) → counts_for id e.call e.answer ≡ (id == moved)) →
    map (moved_on moved) (nexts_of limits history ids) ≡ nexts_of limits (history ++ e ∷ []) ids
nexts_moved limits history e moved [] counts = refl
nexts_moved limits history e moved (id ∷ ids) counts =
    ap (λ (n : NextCount). n ∷ map (moved_on moved) (nexts_of limits history ids)) (one (id == moved) (counts id))
    ∙ ap (λ (ns : List NextCount). record { id = id; next = next_count limits (history ++ e ∷ []) id } ∷ ns) (nexts_moved limits history e moved ids counts)
  where
    one : (here : Bool) → counts_for id e.call e.answer ≡ here →
        cond {A = NextCount} here (record { id = id; next = (next_count limits history id + 1) % 16384 }) (record { id = id; next = next_count limits history id })
        ≡ record { id = id; next = next_count limits (history ++ e ∷ []) id }
    one true is =
        ap (λ (n : ℕ). record { id = id; next = n }) (one_more (start_of limits.starts id) (counted_sends history id))
        ∙ sym (ap (λ (n : ℕ). record { id = id; next = (start_of limits.starts id + n + 1) % 16384 }) (counted_more history e id ∙ ap (λ b. counted_sends history id + cond {A = ℕ} b 1 0) is))
    one false is = sym (ap (λ (n : ℕ). record { id = id; next = (start_of limits.starts id + n + 1) % 16384 }) (counted_still history e id is))

-- One step. --

-- no send of an id without a route moved a count
abbrev pub AreSilent : List Entry → State → Type 0
AreSilent history s = (id : ℕ) → has_route s.routed id ≡ false → counted_sends history id ≡ 0

-- what a call so answered does to the next counts, read off the history
record Moves (limits : Limits) (history : List Entry) (s : State) (app : ℕ) (call : Call) (made : BusAnswer × State) : Type 0 where
  nexts : nexts_after limits (nexts_of limits history s.routed) call made.0
      ≡ nexts_of limits (history ++ record { app = app; call = call; answer = made.0 } ∷ []) made.1.routed
  silent : AreSilent (history ++ record { app = app; call = call; answer = made.0 } ∷ []) made.1

module _ (limits : Limits) (history : List Entry) (s : State) (app : ℕ) (ways : HaveWays s) (quiet : AreSilent history s) where
  -- a call that gives no route and moves no count
  stays : (call : Call) (made : BusAnswer × State) → made.1.routed ≡ s.routed → ((id : ℕ) → counts_for id call made.0 ≡ false) →
      nexts_after limits (nexts_of limits history s.routed) call made.0 ≡ nexts_of limits history s.routed → Moves limits history s app call made
  stays call made routed silent same =
      let e : Entry = record { app = app; call = call; answer = made.0 } in
      record {
        nexts = same ∙ sym (nexts_still limits history e s.routed silent) ∙ ap (nexts_of limits (history ++ e ∷ [])) (sym routed);
        silent = λ id none. counted_still history e id (silent id) ∙ quiet id (ap (λ l. has_route l id) (sym routed) ∙ none);
      }

  refuses : (call : Call) (why : Refusal) → Moves limits history s app call (refusal_answer why, refused_state s call why)
  refuses call why =
      stays call (refusal_answer why, refused_state s call why) (after_refusal (λ t. t.routed ≡ s.routed) s call why refl (λ pipe. refl) (λ next follows. refl)) (λ id. uncounted id call why) (unmoved call why)
    where
      unsent : (id : ℕ) (bytes : List ℕ) (inc : Bool) (because : Refusal) → counts_for id (Transmit bytes inc) (refusal_answer because) ≡ false
      unsent id bytes inc (OfBus status) = refl
      unsent id bytes inc (OfPools status) = refl
      unsent id bytes inc (OfEvents status) = refl

      unpassed : (id buf : ℕ) (bytes : List ℕ) (inc : Bool) (because : Refusal) → counts_for id (TransmitBuffer buf bytes inc) (refusal_answer because) ≡ false
      unpassed id buf bytes inc (OfBus status) = refl
      unpassed id buf bytes inc (OfPools status) = refl
      unpassed id buf bytes inc (OfEvents status) = refl

      untold : (id : ℕ) (because : Refusal) → counts_for id Housekeeping (refusal_answer because) ≡ false
      untold id (OfBus status) = refl
      untold id (OfPools status) = refl
      untold id (OfEvents status) = refl

      uncounted : (id : ℕ) (made : Call) (because : Refusal) → counts_for id made (refusal_answer because) ≡ false
      uncounted id (Create depth name) because = refl
      uncounted id (Delete pipe) because = refl
      uncounted id (SetOpts pipe bits) because = refl
      uncounted id (GetOpts pipe) because = refl
      uncounted id (Find name) because = refl
      uncounted id (PipeName pipe) because = refl
      uncounted id (Subscribe i pipe limit scope) because = refl
      uncounted id (Unsubscribe i pipe) because = refl
      uncounted id (Transmit bytes inc) because = unsent id bytes inc because
      uncounted id (Receive pipe) because = refl
      uncounted id (Pend pipe) because = refl
      uncounted id (Look pipe) because = refl
      uncounted id (Allocate size) because = refl
      uncounted id (TransmitBuffer buf bytes inc) because = unpassed id buf bytes inc because
      uncounted id (Release buf) because = refl
      uncounted id (PoolCreate bytes) because = refl
      uncounted id (PoolGet pool size) because = refl
      uncounted id (PoolPut pool grant) because = refl
      uncounted id (PoolFigures pool) because = refl
      uncounted id (Register filters) because = refl
      uncounted id (SendEvent event kind text) because = refl
      uncounted id (ResetFilter event) because = refl
      uncounted id (LogMode mode) because = refl
      uncounted id ClearLog because = refl
      uncounted id Housekeeping because = untold id because
      uncounted id Figures because = refl
      uncounted id End because = refl

      unrouted : (id pipe limit : ℕ) (scope : Scope) (because : Refusal) →
          nexts_after limits (nexts_of limits history s.routed) (Subscribe id pipe limit scope) (refusal_answer because) ≡ nexts_of limits history s.routed
      unrouted id pipe limit scope (OfBus status) = refl
      unrouted id pipe limit scope (OfPools status) = refl
      unrouted id pipe limit scope (OfEvents status) = refl

      unstamped : (bytes : List ℕ) (inc : Bool) (because : Refusal) →
          nexts_after limits (nexts_of limits history s.routed) (Transmit bytes inc) (refusal_answer because) ≡ nexts_of limits history s.routed
      unstamped bytes inc (OfBus status) = refl
      unstamped bytes inc (OfPools status) = refl
      unstamped bytes inc (OfEvents status) = refl

      unwritten : (buf : ℕ) (bytes : List ℕ) (inc : Bool) (because : Refusal) →
          nexts_after limits (nexts_of limits history s.routed) (TransmitBuffer buf bytes inc) (refusal_answer because) ≡ nexts_of limits history s.routed
      unwritten buf bytes inc (OfBus status) = refl
      unwritten buf bytes inc (OfPools status) = refl
      unwritten buf bytes inc (OfEvents status) = refl

      unpacked : (because : Refusal) → nexts_after limits (nexts_of limits history s.routed) Housekeeping (refusal_answer because) ≡ nexts_of limits history s.routed
      unpacked (OfBus status) = refl
      unpacked (OfPools status) = refl
      unpacked (OfEvents status) = refl

      unmoved : (made : Call) (because : Refusal) → nexts_after limits (nexts_of limits history s.routed) made (refusal_answer because) ≡ nexts_of limits history s.routed
      unmoved (Create depth name) because = refl
      unmoved (Delete pipe) because = refl
      unmoved (SetOpts pipe bits) because = refl
      unmoved (GetOpts pipe) because = refl
      unmoved (Find name) because = refl
      unmoved (PipeName pipe) because = refl
      unmoved (Subscribe i pipe limit scope) because = unrouted i pipe limit scope because
      unmoved (Unsubscribe i pipe) because = refl
      unmoved (Transmit bytes inc) because = unstamped bytes inc because
      unmoved (Receive pipe) because = refl
      unmoved (Pend pipe) because = refl
      unmoved (Look pipe) because = refl
      unmoved (Allocate size) because = refl
      unmoved (TransmitBuffer buf bytes inc) because = unwritten buf bytes inc because
      unmoved (Release buf) because = refl
      unmoved (PoolCreate bytes) because = refl
      unmoved (PoolGet pool size) because = refl
      unmoved (PoolPut pool grant) because = refl
      unmoved (PoolFigures pool) because = refl
      unmoved (Register filters) because = refl
      unmoved (SendEvent event kind text) because = refl
      unmoved (ResetFilter event) because = refl
      unmoved (LogMode mode) because = refl
      unmoved ClearLog because = refl
      unmoved Housekeeping because = unpacked because
      unmoved Figures because = refl
      unmoved End because = refl

  -- an accepted subscription gives its id a route, if it has none
  subscribes : (id pipe limit : ℕ) (scope : Scope) → Moves limits history s app (Subscribe id pipe limit scope) (accept limits history s app (Subscribe id pipe limit scope))
  subscribes id pipe limit scope = by_live (is_subscribed s.subscriptions id pipe) refl
    where
      extended : (b : Bool) → has_route s.routed id ≡ b →
          cond {A = List NextCount} b (nexts_of limits history s.routed) (nexts_of limits history s.routed ++ first_next limits id ∷ [])
          ≡ nexts_of limits (history ++ record { app = app; call = Subscribe id pipe limit scope; answer = Done } ∷ []) (cond {A = List ℕ} b s.routed (s.routed ++ id ∷ []))
      extended true is = sym (nexts_still limits history (record { app = app; call = Subscribe id pipe limit scope; answer = Done }) s.routed (λ n. refl))
      extended false is =
          ap (λ (n : ℕ). nexts_of limits history s.routed ++ record { id = id; next = (n + 1) % 16384 } ∷ []) (sym (add-zero (start_of limits.starts id)))
          ∙ ap (λ (n : ℕ). nexts_of limits history s.routed ++ record { id = id; next = (start_of limits.starts id + n + 1) % 16384 } ∷ []) (sym (quiet id is))
          ∙ sym (map_push (λ (i : ℕ). record { id = i; next = next_count limits history i }) s.routed id)
          ∙ sym (nexts_still limits history (record { app = app; call = Subscribe id pipe limit scope; answer = Done }) (s.routed ++ id ∷ []) (λ n. refl))

      quiet_still : (n : ℕ) → has_route s.routed n ≡ false →
          counted_sends (history ++ record { app = app; call = Subscribe id pipe limit scope; answer = Done } ∷ []) n ≡ 0
      quiet_still n none = counted_still history (record { app = app; call = Subscribe id pipe limit scope; answer = Done }) n refl ∙ quiet n none

      lacked : (n : ℕ) (b : Bool) → has_route s.routed n ≡ b → has_route (with_id s.routed id) n ≡ false → has_route s.routed n ≡ false
      lacked n true is none = absurd (true≢false (sym (has_route-kept s.routed id n is) ∙ none))
      lacked n false is none = is

      known : has_next (nexts_of limits history s.routed) id ≡ has_route s.routed id
      known = has_next-nexts_of limits history s.routed id

      by_live : (b : Bool) → is_subscribed s.subscriptions id pipe ≡ b →
          Moves limits history s app (Subscribe id pipe limit scope) (Done, cond {A = State} b s (with_subscription s id pipe limit scope))
      by_live true is =
          let there : has_route s.routed id ≡ true = way_of_any s.routed id (λ sub. sub.pipe == pipe) s.subscriptions ways is in
          stays (Subscribe id pipe limit scope) (Done, s) refl (λ n. refl)
          (ap (λ b. cond {A = List NextCount} b (nexts_of limits history s.routed) (nexts_of limits history s.routed ++ first_next limits id ∷ [])) (known ∙ there))
      by_live false is = record {
        nexts = ap (λ b. cond {A = List NextCount} b (nexts_of limits history s.routed) (nexts_of limits history s.routed ++ first_next limits id ∷ [])) known
            ∙ extended (has_route s.routed id) refl;
        silent = λ n none. quiet_still n (lacked n (has_route s.routed n) refl none);
      }

  -- an accepted send moves its id's count, if it was asked to and the id has a subscription
  sends : (bytes : List ℕ) (inc : Bool) → Moves limits history s app (Transmit bytes inc) (accept limits history s app (Transmit bytes inc))
  sends bytes inc = by_route (route s.subscriptions (message_id bytes)) refl
    where
      nobody : (n : ℕ) (counts : Bool) → counts_for n (Transmit bytes counts) (Sent 0 0) ≡ false
      nobody n false = refl
      nobody n true = elim (message_id bytes == n) as (λ b. (b && false) ≡ false) [ true ↦ refl | false ↦ refl ]

      unmoved : (counts : Bool) → nexts_after limits (nexts_of limits history s.routed) (Transmit bytes counts) (Sent 0 0) ≡ nexts_of limits history s.routed
      unmoved false = refl
      unmoved true = refl

      some : (given : ℕ) → nat_le 1 (given + 1) ≡ true
      some given = grind (arith, nat_tests)

      mover : (n given reached : ℕ) → counts_for n (Transmit bytes true) (Sent (given + 1) reached) ≡ (n == message_id bytes)
      mover n given reached =
          ap (λ b. (message_id bytes == n) && b) (some given)
          ∙ elim (message_id bytes == n) as (λ b. (b && true) ≡ b) [ true ↦ refl | false ↦ refl ]
          ∙ same-sym (message_id bytes) n

      counted : (given reached : ℕ) (t : State) → t.routed ≡ s.routed → has_route s.routed (message_id bytes) ≡ true → (counts : Bool) →
          Moves limits history s app (Transmit bytes counts) (Sent (given + 1) reached, t)
      counted given reached t routed there false = stays (Transmit bytes false) (Sent (given + 1) reached, t) routed (λ n. refl) refl
      counted given reached t routed there true =
          let e : Entry = record { app = app; call = Transmit bytes true; answer = Sent (given + 1) reached } in
          let moved = message_id bytes in
          record {
            nexts =
                ap (λ b. cond {A = List NextCount} b (map (moved_on moved) (nexts_of limits history s.routed)) (nexts_of limits history s.routed)) (some given)
                ∙ nexts_moved limits history e moved s.routed (λ n. mover n given reached)
                ∙ ap (nexts_of limits (history ++ e ∷ [])) (sym routed);
            silent = λ n none.
                let lacks : has_route s.routed n ≡ false = ap (λ l. has_route l n) (sym routed) ∙ none in
                counted_still history e n (mover n given reached ∙ other n lacks (n == moved) refl) ∙ quiet n lacks;
          }
        where
          other : (n : ℕ) → has_route s.routed n ≡ false → (b : Bool) → (n == message_id bytes) ≡ b → (n == message_id bytes) ≡ false
          other n lacks true is = absurd (true≢false (sym there ∙ ap (has_route s.routed) (sym (eqb-true n (message_id bytes) is)) ∙ lacks))
          other n lacks false is = is

      by_route : (subs : List Subscription) → route s.subscriptions (message_id bytes) ≡ subs →
          Moves limits history s app (Transmit bytes inc)
          (sent_along limits subs (record { sender = app; number = s.numbers_given + 1; asked = length bytes; message = delivered limits history bytes inc }) s)
      by_route [] is = stays (Transmit bytes inc) (Sent 0 0, s) refl (λ n. nobody n inc) (unmoved inc)
      by_route (first ∷ more) is =
          let sending : Sending = record { sender = app; number = s.numbers_given + 1; asked = length bytes; message = delivered limits history bytes inc } in
          counted s.numbers_given (reached sending (first ∷ more) s.pipes) (with_sent limits s sending (first ∷ more)) refl (way_of s.routed (message_id bytes) s.subscriptions first more ways is) inc

  -- so does an accepted transmission of a buffer
  passes : (buf : ℕ) (bytes : List ℕ) (inc : Bool) → Moves limits history s app (TransmitBuffer buf bytes inc) (accept limits history s app (TransmitBuffer buf bytes inc))
  passes buf bytes inc = by_route (route s.subscriptions (message_id bytes)) refl
    where
      moved : ℕ
      moved = message_id bytes

      nobody : (n number reached : ℕ) (counts : Bool) → nat_le 1 number ≡ false → counts_for n (TransmitBuffer buf bytes counts) (Sent number reached) ≡ false
      nobody n number reached false is = refl
      nobody n number reached true is = ap (λ b. (moved == n) && b) is ∙ elim (moved == n) as (λ b. (b && false) ≡ false) [ true ↦ refl | false ↦ refl ]

      unmoved : (number reached : ℕ) (counts : Bool) → nat_le 1 number ≡ false →
          nexts_after limits (nexts_of limits history s.routed) (TransmitBuffer buf bytes counts) (Sent number reached) ≡ nexts_of limits history s.routed
      unmoved number reached false is = refl
      unmoved number reached true is = ap (λ b. cond {A = List NextCount} b (map (moved_on moved) (nexts_of limits history s.routed)) (nexts_of limits history s.routed)) is

      mover : (n number reached : ℕ) → nat_le 1 number ≡ true → counts_for n (TransmitBuffer buf bytes true) (Sent number reached) ≡ (n == moved)
      mover n number reached is =
          ap (λ b. (moved == n) && b) is
          ∙ elim (moved == n) as (λ b. (b && true) ≡ b) [ true ↦ refl | false ↦ refl ]
          ∙ same-sym moved n

      counted : (number reached : ℕ) (t : State) → t.routed ≡ s.routed → has_route s.routed moved ≡ true → (some : Bool) → nat_le 1 number ≡ some → (counts : Bool) →
          Moves limits history s app (TransmitBuffer buf bytes counts) (Sent number reached, t)
      counted number reached t routed there some is false = stays (TransmitBuffer buf bytes false) (Sent number reached, t) routed (λ n. refl) refl
      counted number reached t routed there false is true =
          stays (TransmitBuffer buf bytes true) (Sent number reached, t) routed (λ n. nobody n number reached true is) (unmoved number reached true is)
      counted number reached t routed there true is true =
          let e : Entry = record { app = app; call = TransmitBuffer buf bytes true; answer = Sent number reached } in
          record {
            nexts =
                ap (λ b. cond {A = List NextCount} b (map (moved_on moved) (nexts_of limits history s.routed)) (nexts_of limits history s.routed)) is
                ∙ nexts_moved limits history e moved s.routed (λ n. mover n number reached is)
                ∙ ap (nexts_of limits (history ++ e ∷ [])) (sym routed);
            silent = λ n none.
                let lacks : has_route s.routed n ≡ false = ap (λ l. has_route l n) (sym routed) ∙ none in
                counted_still history e n (mover n number reached is ∙ other n lacks (n == moved) refl) ∙ quiet n lacks;
          }
        where
          other : (n : ℕ) → has_route s.routed n ≡ false → (b : Bool) → (n == moved) ≡ b → (n == moved) ≡ false
          other n lacks true same = absurd (true≢false (sym there ∙ ap (has_route s.routed) (sym (eqb-true n moved same)) ∙ lacks))
          other n lacks false same = same

      by_route : (subs : List Subscription) → route s.subscriptions moved ≡ subs →
          Moves limits history s app (TransmitBuffer buf bytes inc)
          (passed_along subs (record { sender = app; number = buf; asked = unsent_size s.unsent app buf; message = delivered limits history (front_of bytes) inc }) (buffer_gone s app buf))
      by_route [] is = stays (TransmitBuffer buf bytes inc) (Sent 0 0, buffer_gone s app buf) refl (λ n. nobody n 0 0 inc refl) (unmoved 0 0 inc refl)
      by_route (first ∷ more) is =
          let sending : Sending = record { sender = app; number = buf; asked = unsent_size s.unsent app buf; message = delivered limits history (front_of bytes) inc } in
          counted buf (reached sending (first ∷ more) s.pipes) (record (buffer_gone s app buf) { pipes = deliver sending (first ∷ more) s.pipes }) refl
          (way_of s.routed moved s.subscriptions first more ways is) (nat_le 1 buf) refl inc

  -- a call that moves the same counts as another, so answered
  moves_as : (call other : Call) (made : BusAnswer × State) → ((id : ℕ) → counts_for id other made.0 ≡ counts_for id call made.0) →
      nexts_after limits (nexts_of limits history s.routed) other made.0 ≡ nexts_after limits (nexts_of limits history s.routed) call made.0 →
      Moves limits history s app other made → Moves limits history s app call made
  moves_as call other made counts same moves =
      let e : Entry = record { app = app; call = call; answer = made.0 } in
      let f : Entry = record { app = app; call = other; answer = made.0 } in
      record {
        nexts = sym same ∙ moves.nexts ∙ nexts_same limits history f e made.1.routed counts;
        silent = λ id none. counted_same history e f id (sym (counts id)) ∙ moves.silent id none;
      }

  -- housekeeping is a send of its packet
  tells : Moves limits history s app Housekeeping (accept limits history s app Housekeeping)
  tells = by_route (route s.subscriptions (message_id packet)) (sends packet true)
    where
      packet : List ℕ
      packet = packet_in limits s

      sending : Sending
      sending = sending_from (reads_after limits history) s app packet true

      as_send : (number reached : ℕ) (t : State) → Moves limits history s app (Transmit packet true) (Sent number reached, t) →
          Moves limits history s app Housekeeping (Sent number reached, t)
      as_send number reached t moves =
          moves_as Housekeeping (Transmit packet true) (Sent number reached, t) (λ n. ap (λ id. (id == n) && nat_le 1 number) (id-packet limits s))
          (ap (λ id. cond {A = List NextCount} (nat_le 1 number) (map (moved_on id) (nexts_of limits history s.routed)) (nexts_of limits history s.routed)) (id-packet limits s))
          moves

      by_route : (subs : List Subscription) → Moves limits history s app (Transmit packet true) (sent_along limits subs sending s) →
          Moves limits history s app Housekeeping (sent_along limits subs sending s)
      by_route [] moves = as_send 0 0 s moves
      by_route (first ∷ more) moves = as_send sending.number (reached sending (first ∷ more) s.pipes) (with_sent limits s sending (first ∷ more)) moves

  accepts : (call : Call) → Moves limits history s app call (accept limits history s app call)
  accepts (Create depth name) = stays (Create depth name) (accept limits history s app (Create depth name)) refl (λ id. refl) refl
  accepts (Delete pipe) = stays (Delete pipe) (accept limits history s app (Delete pipe)) refl (λ id. refl) refl
  accepts (SetOpts pipe bits) = stays (SetOpts pipe bits) (accept limits history s app (SetOpts pipe bits)) refl (λ id. refl) refl
  accepts (GetOpts pipe) = stays (GetOpts pipe) (accept limits history s app (GetOpts pipe)) refl (λ id. refl) refl
  accepts (Find name) = stays (Find name) (accept limits history s app (Find name)) refl (λ id. refl) refl
  accepts (PipeName pipe) = stays (PipeName pipe) (accept limits history s app (PipeName pipe)) refl (λ id. refl) refl
  accepts (Subscribe id pipe limit scope) = subscribes id pipe limit scope
  accepts (Unsubscribe id pipe) = stays (Unsubscribe id pipe) (accept limits history s app (Unsubscribe id pipe)) refl (λ id. refl) refl
  accepts (Transmit bytes inc) = sends bytes inc
  accepts (Receive pipe) = stays (Receive pipe) (accept limits history s app (Receive pipe)) refl (λ id. refl) refl
  accepts (Pend pipe) =
      stays (Pend pipe) (accept limits history s app (Pend pipe))
      (after_choice (λ t. t.routed ≡ s.routed) (is_empty s.pipes pipe && not (others_idle s app)) (with_standing (received s pipe) app (Waiting pipe)) (received s pipe) refl refl)
      (λ id. refl) refl
  accepts (Look pipe) =
      stays (Look pipe) (accept limits history s app (Look pipe))
      (after_choice (λ t. t.routed ≡ s.routed) (is_empty s.pipes pipe && not (others_idle s app)) s (with_standing (received s pipe) app Active) refl refl)
      (λ id. refl) refl
  accepts (Allocate size) = stays (Allocate size) (accept limits history s app (Allocate size)) refl (λ id. refl) refl
  accepts (TransmitBuffer buf bytes inc) = passes buf bytes inc
  accepts (Release buf) = stays (Release buf) (accept limits history s app (Release buf)) refl (λ id. refl) refl
  accepts (PoolCreate bytes) = stays (PoolCreate bytes) (accept limits history s app (PoolCreate bytes)) refl (λ id. refl) refl
  accepts (PoolGet pool size) = stays (PoolGet pool size) (accept limits history s app (PoolGet pool size)) refl (λ id. refl) refl
  accepts (PoolPut pool grant) = stays (PoolPut pool grant) (accept limits history s app (PoolPut pool grant)) refl (λ id. refl) refl
  accepts (PoolFigures pool) = stays (PoolFigures pool) (accept limits history s app (PoolFigures pool)) refl (λ id. refl) refl
  accepts (Register filters) = stays (Register filters) (accept limits history s app (Register filters)) refl (λ id. refl) refl
  accepts (SendEvent event kind text) = stays (SendEvent event kind text) (accept limits history s app (SendEvent event kind text)) refl (λ id. refl) refl
  accepts (ResetFilter event) = stays (ResetFilter event) (accept limits history s app (ResetFilter event)) refl (λ id. refl) refl
  accepts (LogMode mode) = stays (LogMode mode) (accept limits history s app (LogMode mode)) refl (λ id. refl) refl
  accepts ClearLog = stays ClearLog (accept limits history s app ClearLog) refl (λ id. refl) refl
  accepts Housekeeping = tells
  accepts Figures = stays Figures (accept limits history s app Figures) refl (λ id. refl) refl
  accepts End = stays End (accept limits history s app End) refl (λ id. refl) refl

  moves : (call : Call) → Moves limits history s app call (step limits history s app call)
  moves call = record { nexts = decides.nexts; silent = decides.silent }
    where
      by_cause : (why : Option Refusal) → Moves limits history s app call (decided limits history s app call why)
      by_cause (Some why) = refuses call why
      by_cause None = accepts call

      decides : Moves limits history s app call (decided limits history s app call (cause limits s app call))
      decides = by_cause (cause limits s app call)

  -- one call of the whole state is the history's step, and leaves what the longer history is read as
  pub acts : (call : Call) →
      act limits (whole_of limits history s) app call
      ≡ ((step limits history s app call).0, whole_of limits (history ++ record { app = app; call = call; answer = (step limits history s app call).0 } ∷ []) ((step limits history s app call).1))
  acts call =
      ap (completed limits (whole_of limits history s) call)
      (steps_alike (reads_in (whole_of limits history s)) (reads_after limits history) limits s app call (reads_alike limits history s) ways)
      ∙ ap (λ (ns : List NextCount). ((step limits history s app call).0, record { bus = (step limits history s app call).1; nexts = ns })) (moves call).nexts

  pub silent_after : (call : Call) → AreSilent (history ++ record { app = app; call = call; answer = (step limits history s app call).0 } ∷ []) ((step limits history s app call).1)
  silent_after call = (moves call).silent

-- Histories. --

-- the state after more entries of a legal history is what the longer history is read as
whole_from-legal : (limits : Limits) (history : List Entry) (s : State) (es : List Entry) → LegalFrom limits history s es → HaveWays s → AreSilent history s →
    whole_from limits (whole_of limits history s) es ≡ whole_of limits (history ++ es) (state_from limits history s es)
whole_from-legal limits history s [] legal ways quiet = ap (λ h. whole_of limits h s) (sym (append-nil history))
whole_from-legal limits history s (e ∷ es) legal ways quiet =
    let next = (step limits history s e.app e.call).1 in
    let longer : BusAnswer → List Entry = λ a. history ++ record { app = e.app; call = e.call; answer = a } ∷ [] in
    ap (λ (made : BusAnswer × Whole). whole_from limits made.1 es) (acts limits history s e.app ways quiet e.call)
    ∙ ap (λ a. whole_from limits (whole_of limits (longer a) next) es) (sym legal.1)
    ∙ whole_from-legal limits (history ++ e ∷ []) next es legal.4 (HaveWays-step limits history s e.app e.call ways)
    (subst (λ a. AreSilent (longer a) next) (sym legal.1) (silent_after limits history s e.app ways quiet e.call))
    ∙ ap (λ h. whole_of limits h (state_from limits (history ++ e ∷ []) next es)) (append_assoc history (e ∷ []) es)

silent_from : (limits : Limits) (history : List Entry) (s : State) (es : List Entry) → LegalFrom limits history s es → HaveWays s → AreSilent history s →
    AreSilent (history ++ es) (state_from limits history s es)
silent_from limits history s [] legal ways quiet = subst (λ h. AreSilent h s) (sym (append-nil history)) quiet
silent_from limits history s (e ∷ es) legal ways quiet =
    let next = (step limits history s e.app e.call).1 in
    let longer : BusAnswer → List Entry = λ a. history ++ record { app = e.app; call = e.call; answer = a } ∷ [] in
    subst (λ h. AreSilent h (state_from limits (history ++ e ∷ []) next es)) (append_assoc history (e ∷ []) es)
    (silent_from limits (history ++ e ∷ []) next es legal.4 (HaveWays-step limits history s e.app e.call ways)
    (subst (λ a. AreSilent (longer a) next) (sym legal.1) (silent_after limits history s e.app ways quiet e.call)))

-- each subscription's id has a route after every history
pub HaveWays-after : (limits : Limits) (apps : ℕ) (history : List Entry) → HaveWays (state_after limits apps history)
HaveWays-after limits apps history = state_from-keeps HaveWays limits (HaveWays-step limits) [] (opening limits apps) history tt

-- folding a legal history gives the state that it is read as
pub whole_after-legal : (limits : Limits) (apps : ℕ) (history : List Entry) → IsLegal limits apps history →
    whole_after limits apps history ≡ whole_of limits history (state_after limits apps history)
whole_after-legal limits apps history legal = whole_from-legal limits [] (opening limits apps) history legal tt (λ id none. refl)

-- and a call there answers what it answers after the history, and leaves what the longer history is read as
pub acts_after : (limits : Limits) (apps : ℕ) (history : List Entry) (app : ℕ) (call : Call) → IsLegal limits apps history →
    act limits (whole_after limits apps history) app call
    ≡ (
      (step limits history (state_after limits apps history) app call).0,
      whole_of limits (history ++ record { app = app; call = call; answer = (step limits history (state_after limits apps history) app call).0 } ∷ [])
          ((step limits history (state_after limits apps history) app call).1),
    )
acts_after limits apps history app call legal =
    ap (λ w. act limits w app call) (whole_after-legal limits apps history legal)
    ∙ acts limits history (state_after limits apps history) app (HaveWays-after limits apps history)
    (silent_from limits [] (opening limits apps) history legal tt (λ id none. refl)) call

-- what a call sees in that state is what it sees after the history
pub reads_after-legal : (limits : Limits) (apps : ℕ) (history : List Entry) → IsLegal limits apps history →
    AreAlike (reads_in (whole_after limits apps history)) (reads_after limits history) (state_after limits apps history)
reads_after-legal limits apps history legal =
    let s = state_after limits apps history in
    subst (λ w. AreAlike (reads_in w) (reads_after limits history) s) (sym (whole_after-legal limits apps history legal)) (reads_alike limits history s)

-- and it is refused for the same cause
pub causes_after : (limits : Limits) (apps : ℕ) (history : List Entry) (app : ℕ) (call : Call) → IsLegal limits apps history →
    cause limits (whole_after limits apps history).bus app call ≡ cause limits (state_after limits apps history) app call
causes_after limits apps history app call legal =
    ap (λ w. cause limits w.bus app call) (whole_after-legal limits apps history legal)
