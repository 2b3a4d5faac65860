-- What holds after every step of the bus, and so after every history: how many standings there are, and that live
-- pipes and subscriptions stand in order of number, none above those that were made.
use Rattle.std.proofs.Common.{◌≡◌, ℕ, ◌+◌, ◌-◌, ◌<◌, ◌≤◌, ◌==◌, ◌&&◌, not, Bool, true, false, cond, if◌then◌else◌, append-nil, append_assoc, List, [], ◌∷◌, ◌++◌, length, map, filter, Option, Some, None, is_some, refl, ap, sym, ◌∙◌, subst, arith, true≢false, ne_eqb}
use Rattle.std.specs.Prelude.{nat_lt}
use Rattle.std.proofs.lemmas.List.{length-set, length-replicate, length_push, map_push}
use Rattle.ccsds_msg.specs.Message.{fault, front_fault, message_id}
use Rattle.fsw_base.specs.declared.config.Scope.{Scope}
use Rattle.fsw_base.specs.declared.statuses.SbStatus.{SbStatus}
use Rattle.fsw_base.specs.declared.statuses.SbStatus.TheVariants.{BadArgument, MaxPipesMet, PipeCrErr, MaxMsgsMet, MaxDestsMet, MsgTooBig, BufAlocErr, NoMessage, BufferInvalid}
use Rattle.fsw_base.specs.Limits.{Limits}
use Rattle.fsw_base.specs.PoolAccounts.{has_room}
use Rattle.fsw_base.specs.EventDesk.{Desk}
use Rattle.housekeeping.specs.Statistics.{Statistics}
use Rattle.fsw_base.specs.Grants.{Pools, pool_in, with_pool, after_create, after_get, after_put}
use Rattle.fsw_base.proofs.GrantCalls.{Follow, follows_create, follows_get, follows_put}
use Rattle.bus_words.specs.declared.history.Call.{Call}
use Rattle.bus_words.specs.declared.history.Call.TheVariants.{Create, Delete, SetOpts, GetOpts, Find, PipeName, Subscribe, Unsubscribe, Transmit, Receive, Pend, Look, Allocate, TransmitBuffer, Release, PoolCreate, PoolGet, PoolPut, PoolFigures, Register, SendEvent, ResetFilter, LogMode, ClearLog, Housekeeping, Figures, End}
use Rattle.bus_words.specs.declared.history.Entry.{Entry}
use Rattle.bus_words.specs.Bus.{Pipe, Subscription, State, Standing, Active, Waiting, Ended, Sending, opening, with_pipe, with_bits, with_standing, has_ended, is_empty, others_idle, route, is_subscribed, has_route, offered, deliver, after_receive, owns, has_unsent, unsent_size}
use Rattle.bus_words.specs.Held.{account_of, account_drawn}
use Rattle.bus_words.specs.Refusals.{Refusal, OfBus, OfPools, OfEvents}
use Rattle.bus_words.specs.Machine.{sending_from, packet_in, transmitted, recorded, by_bus, created, deleted, unsubscribed, sent_along, allocated, buffer_gone, passed_along, stamped, front_of, reads_after, received, ended, cause, create_cause, subscribe_cause, unowned_cause, set_opts_cause, unsubscribe_cause, transmit_cause, allocate_cause, transmit_buffer_cause, release_cause, refused_if, accept, refused_state, decided, step, state_from, state_after}

-- Steps by cases. --

-- a refusal of the bus that doesn't come
pub by_bus-none : (why : Option SbStatus) → by_bus why ≡ None → why ≡ None
by_bus-none None is = refl
by_bus-none (Some status) is = absurd (true≢false (ap is_some is))

-- one that comes
pub by_bus-some : (why : Option SbStatus) (status : SbStatus) → by_bus why ≡ Some (OfBus status) → why ≡ Some status
by_bus-some None status is = absurd (true≢false (sym (ap is_some is)))
by_bus-some (Some other) status is = ap status_of is
  where
    status_of : Option Refusal → Option SbStatus
    status_of None = None
    status_of (Some (OfBus found)) = Some found
    status_of (Some (OfPools found)) = None
    status_of (Some (OfEvents found)) = None

-- the bus with one subscription more
abbrev pub with_subscription : State → ℕ → ℕ → ℕ → Scope → State
with_subscription s id pipe limit scope = record s {
  subscriptions = s.subscriptions ++ record { number = s.subscriptions_made + 1; id = id; pipe = pipe; limit = limit; scope = scope } ∷ [];
  subscriptions_made = s.subscriptions_made + 1;
  routed = if has_route s.routed id then s.routed else s.routed ++ id ∷ [];
}

-- the bus once a block was drawn for what is sent and these subscriptions were offered it
abbrev pub with_sent : Limits → State → Sending → List Subscription → State
with_sent limits s sending subs = record s {
  pipes = deliver sending subs s.pipes;
  numbers_given = sending.number;
  made = (account_drawn limits s sending.asked).made;
  drawn = (account_drawn limits s sending.asked).requests;
}

-- if a refusal doesn't come, its test is false, and none that follow come
pub refused_if-none : (test : Bool) (status : SbStatus) (others : Option SbStatus) → refused_if test status others ≡ None → (test ≡ false) × (others ≡ None)
refused_if-none true status others none = cc
refused_if-none false status others none = (refl, none)

-- a send that isn't refused, and that somebody subscribes to, has room for its block
pub transmit_cause-none : (limits : Limits) (s : State) (bytes : List ℕ) → transmit_cause limits s bytes ≡ None →
    (length (route s.subscriptions (message_id bytes)) == 0) ≡ false → has_room (account_of limits s) (length bytes) ≡ true
transmit_cause-none limits s bytes none some =
    let room = has_room (account_of limits s) (length bytes) in
    let first = refused_if-none (is_some (fault bytes)) BadArgument _ none in
    let second = refused_if-none (nat_lt limits.msgmax (length bytes)) MsgTooBig _ first.1 in
    let last = subst (λ b. cond {A = Option SbStatus} b None (refused_if (not room) BufAlocErr None) ≡ None) some second.1 in
    not_false room (refused_if-none (not room) BufAlocErr None last).0
  where
    not_false : (b : Bool) → not b ≡ false → b ≡ true
    not_false true is = refl
    not_false false is = absurd (true≢false is)

-- a transmission that isn't refused is of an unsent buffer of the application's own
pub transmit_buffer_cause-none : (s : State) (app buf : ℕ) (bytes : List ℕ) → transmit_buffer_cause s app buf bytes ≡ None → has_unsent s.unsent app buf ≡ true
transmit_buffer_cause-none s app buf bytes none =
    of_not (has_unsent s.unsent app buf) (refused_if-none (not (has_unsent s.unsent app buf)) BufferInvalid (refused_if (is_some (front_fault bytes)) BadArgument None) none).0
  where
    of_not : (b : Bool) → not b ≡ false → b ≡ true
    of_not true is = refl
    of_not false is = absurd (true≢false is)

-- and so is a release
pub release_cause-none : (s : State) (app buf : ℕ) → release_cause s app buf ≡ None → has_unsent s.unsent app buf ≡ true
release_cause-none s app buf none = of_not (has_unsent s.unsent app buf) (refused_if-none (not (has_unsent s.unsent app buf)) BufferInvalid None none).0
  where
    of_not : (b : Bool) → not b ≡ false → b ≡ true
    of_not true is = refl
    of_not false is = absurd (true≢false is)

-- a fact of a state that each change of it keeps
pub record Keeps (F : State → Type 0) (limits : Limits) (s : State) (app : ℕ) : Type 0 where
  pub same : F s
  pub creates : (depth : ℕ) (name : List ℕ) → create_cause limits s depth name ≡ None → F ((created s app depth name).1)
  pub subscribes : (id pipe limit : ℕ) (scope : Scope) → subscribe_cause limits s app id pipe ≡ None →
      is_subscribed s.subscriptions id pipe ≡ false → F (with_subscription s id pipe limit scope)
  pub sends : (sending : Sending) (id : ℕ) → sending.sender ≡ app → sending.number ≡ s.numbers_given + 1 →
      has_room (account_of limits s) sending.asked ≡ true → F (with_sent limits s sending (route s.subscriptions id))
  pub receives : (pipe : ℕ) → F (received s pipe)
  pub deletes : (pipe : ℕ) → unowned_cause s app pipe ≡ None → F (deleted s pipe)
  pub sets : (pipe bits : ℕ) → set_opts_cause limits s app pipe bits ≡ None → F (record s { pipes = with_pipe (with_bits bits) pipe s.pipes })
  pub unsubscribes : (id pipe : ℕ) → unsubscribe_cause s app id pipe ≡ None → F (unsubscribed s id pipe)
  pub stands : (pipe : ℕ) (standing : Standing) → has_ended standing ≡ false → F (with_standing (received s pipe) app standing)
  pub ends : F (ended s app)
  pub pools : (next : Pools) → Follow s.pools next → F (record s { pools = next })
  pub allocates : (size : ℕ) → allocate_cause limits s size ≡ None → F ((allocated limits s app size).1)
  pub leaves : (buf : ℕ) → has_unsent s.unsent app buf ≡ true → F (buffer_gone s app buf)
  pub records : (t : State) (desk : Desk) (statistics : Statistics) → F t → F (record t { events = desk; statistics = statistics })
  pub passes : (sending : Sending) (id : ℕ) → sending.sender ≡ app → has_unsent s.unsent app sending.number ≡ true →
      sending.asked ≡ unsent_size s.unsent app sending.number →
      F (record (buffer_gone s app sending.number) { pipes = deliver sending (route s.subscriptions id) s.pipes })

pub refused_receive : (F : State → Type 0) (s : State) (pipe : ℕ) (why : Refusal) → F s → F (received s pipe) → F (refused_state s (Receive pipe) why)
refused_receive F s pipe (OfBus BadArgument) same receives = same
refused_receive F s pipe (OfBus MaxPipesMet) same receives = same
refused_receive F s pipe (OfBus PipeCrErr) same receives = same
refused_receive F s pipe (OfBus MaxMsgsMet) same receives = same
refused_receive F s pipe (OfBus MaxDestsMet) same receives = same
refused_receive F s pipe (OfBus MsgTooBig) same receives = same
refused_receive F s pipe (OfBus BufAlocErr) same receives = same
refused_receive F s pipe (OfBus NoMessage) same receives = receives
refused_receive F s pipe (OfBus BufferInvalid) same receives = same
refused_receive F s pipe (OfPools status) same receives = same
refused_receive F s pipe (OfEvents status) same receives = same

pub after_refusal : (F : State → Type 0) (s : State) (call : Call) (why : Refusal) → F s → ((pipe : ℕ) → F (received s pipe)) → ((next : Pools) → Follow s.pools next → F (record s { pools = next })) →
    F (refused_state s call why)
after_refusal F s (Create depth name) why same receives pools = same
after_refusal F s (Delete pipe) why same receives pools = same
after_refusal F s (SetOpts pipe bits) why same receives pools = same
after_refusal F s (GetOpts pipe) why same receives pools = same
after_refusal F s (Find name) why same receives pools = same
after_refusal F s (PipeName pipe) why same receives pools = same
after_refusal F s (Subscribe id pipe limit scope) why same receives pools = same
after_refusal F s (Unsubscribe id pipe) why same receives pools = same
after_refusal F s (Transmit bytes inc) why same receives pools = same
after_refusal F s (Receive pipe) why same receives pools = refused_receive F s pipe why same (receives pipe)
after_refusal F s (Pend pipe) why same receives pools = same
after_refusal F s (Look pipe) why same receives pools = same
after_refusal F s (Allocate size) why same receives pools = same
after_refusal F s (TransmitBuffer buf bytes inc) why same receives pools = same
after_refusal F s (Release buf) why same receives pools = same
after_refusal F s (PoolCreate bytes) why same receives pools = same
after_refusal F s (PoolGet pool size) why same receives pools = same
after_refusal F s (PoolPut pool grant) why same receives pools = pools (with_pool s.pools pool (after_put (pool_in s.pools pool) grant)) (follows_put s.pools pool grant)
after_refusal F s (PoolFigures pool) why same receives pools = same
after_refusal F s (Register filters) why same receives pools = same
after_refusal F s (SendEvent event kind text) why same receives pools = same
after_refusal F s (ResetFilter event) why same receives pools = same
after_refusal F s (LogMode mode) why same receives pools = same
after_refusal F s ClearLog why same receives pools = same
after_refusal F s Housekeeping why same receives pools = same
after_refusal F s Figures why same receives pools = same
after_refusal F s End why same receives pools = same

after_subscribe : (F : State → Type 0) (s next : State) (live : Bool) → F s → (live ≡ false → F next) → F (if live then s else next)
after_subscribe F s next true same other = same
after_subscribe F s next false same other = other refl

after_send : (F : State → Type 0) (limits : Limits) (s : State) (sending : Sending) (subs : List Subscription) → F s →
    ((length subs == 0) ≡ false → F (with_sent limits s sending subs)) → F ((sent_along limits subs sending s).1)
after_send F limits s sending [] same sends = same
after_send F limits s sending (sub ∷ subs) same sends = sends (ne_eqb (length (sub ∷ subs)) 0 (λ is. omega (arith, is)))

after_passing : (F : State → Type 0) (s : State) (sending : Sending) (subs : List Subscription) → F s →
    F (record s { pipes = deliver sending subs s.pipes }) → F ((passed_along subs sending s).1)
after_passing F s sending [] gone passes = gone
after_passing F s sending (sub ∷ subs) gone passes = passes

pub after_choice : (F : State → Type 0) (test : Bool) (one other : State) → F one → F other → F (if test then one else other)
after_choice F true one other first second = first
after_choice F false one other first second = second

after_transmit : (F : State → Type 0) (limits : Limits) (history : List Entry) (s : State) (app : ℕ) (bytes : List ℕ) (inc : Bool) →
    transmit_cause limits s bytes ≡ None → Keeps F limits s app → F ((transmitted (reads_after limits history) limits s app bytes inc).1)
after_transmit F limits history s app bytes inc none keeps =
    let sending : Sending = sending_from (reads_after limits history) s app bytes inc in
    after_send F limits s sending (route s.subscriptions (message_id bytes)) keeps.same
    (λ some. keeps.sends sending (message_id bytes) refl refl (transmit_cause-none limits s bytes none some))

after_accepted : (F : State → Type 0) (limits : Limits) (history : List Entry) (s : State) (app : ℕ) (call : Call) →
    cause limits s app call ≡ None → Keeps F limits s app → F ((accept limits history s app call).1)
after_accepted F limits history s app (Create depth name) none keeps = keeps.creates depth name (by_bus-none (create_cause limits s depth name) none)
after_accepted F limits history s app (Delete pipe) none keeps = keeps.deletes pipe (by_bus-none (unowned_cause s app pipe) none)
after_accepted F limits history s app (SetOpts pipe bits) none keeps = keeps.sets pipe bits (by_bus-none (set_opts_cause limits s app pipe bits) none)
after_accepted F limits history s app (GetOpts pipe) none keeps = keeps.same
after_accepted F limits history s app (Find name) none keeps = keeps.same
after_accepted F limits history s app (PipeName pipe) none keeps = keeps.same
after_accepted F limits history s app (Subscribe id pipe limit scope) none keeps =
    after_subscribe F s (with_subscription s id pipe limit scope) (is_subscribed s.subscriptions id pipe) keeps.same (keeps.subscribes id pipe limit scope (by_bus-none (subscribe_cause limits s app id pipe) none))
after_accepted F limits history s app (Unsubscribe id pipe) none keeps = keeps.unsubscribes id pipe (by_bus-none (unsubscribe_cause s app id pipe) none)
after_accepted F limits history s app (Transmit bytes inc) none keeps = after_transmit F limits history s app bytes inc (by_bus-none (transmit_cause limits s bytes) none) keeps
after_accepted F limits history s app (Receive pipe) none keeps = keeps.receives pipe
after_accepted F limits history s app (Pend pipe) none keeps =
    after_choice F (is_empty s.pipes pipe && not (others_idle s app)) (with_standing (received s pipe) app (Waiting pipe)) (received s pipe)
    (keeps.stands pipe (Waiting pipe) refl) (keeps.receives pipe)
after_accepted F limits history s app (Look pipe) none keeps =
    after_choice F (is_empty s.pipes pipe && not (others_idle s app)) s (with_standing (received s pipe) app Active)
    keeps.same (keeps.stands pipe Active refl)
after_accepted F limits history s app (Allocate size) none keeps = keeps.allocates size (by_bus-none (allocate_cause limits s size) none)
after_accepted F limits history s app (TransmitBuffer buf bytes inc) none keeps =
    let has = transmit_buffer_cause-none s app buf bytes (by_bus-none (transmit_buffer_cause s app buf bytes) none) in
    let sending : Sending = record { sender = app; number = buf; asked = unsent_size s.unsent app buf; message = stamped (reads_after limits history) (front_of bytes) inc } in
    after_passing F (buffer_gone s app buf) sending (route s.subscriptions (message_id bytes)) (keeps.leaves buf has)
    (keeps.passes sending (message_id bytes) refl has refl)
after_accepted F limits history s app (Release buf) none keeps = keeps.leaves buf (release_cause-none s app buf (by_bus-none (release_cause s app buf) none))
after_accepted F limits history s app (PoolCreate bytes) none keeps = keeps.pools (after_create s.pools bytes) (follows_create s.pools bytes)
after_accepted F limits history s app (PoolGet pool size) none keeps = keeps.pools (with_pool s.pools pool (after_get (pool_in s.pools pool) app size)) (follows_get s.pools pool app size)
after_accepted F limits history s app (PoolPut pool grant) none keeps = keeps.pools (with_pool s.pools pool (after_put (pool_in s.pools pool) grant)) (follows_put s.pools pool grant)
after_accepted F limits history s app (PoolFigures pool) none keeps = keeps.same
after_accepted F limits history s app (Register filters) none keeps = keeps.same
after_accepted F limits history s app (SendEvent event kind text) none keeps = keeps.same
after_accepted F limits history s app (ResetFilter event) none keeps = keeps.same
after_accepted F limits history s app (LogMode mode) none keeps = keeps.same
after_accepted F limits history s app ClearLog none keeps = keeps.same
after_accepted F limits history s app Housekeeping none keeps =
    after_transmit F limits history s app (packet_in limits s) true (by_bus-none (transmit_cause limits s (packet_in limits s)) none) keeps
after_accepted F limits history s app Figures none keeps = keeps.same
after_accepted F limits history s app End none keeps = keeps.ends

after_decided : (F : State → Type 0) (limits : Limits) (history : List Entry) (s : State) (app : ℕ) (call : Call) (why : Option Refusal) →
    cause limits s app call ≡ why → Keeps F limits s app → F ((decided limits history s app call why).1)
after_decided F limits history s app call (Some why) is keeps = after_refusal F s call why keeps.same keeps.receives keeps.pools
after_decided F limits history s app call None is keeps = after_accepted F limits history s app call is keeps

-- what each change keeps holds after a step
pub after_step : (F : State → Type 0) (limits : Limits) (history : List Entry) (s : State) (app : ℕ) (call : Call) →
    Keeps F limits s app → F ((step limits history s app call).1)
after_step F limits history s app call keeps =
    let made = decided limits history s app call (cause limits s app call) in
    let next = recorded limits s app call made in
    keeps.records made.1 next.1.events next.1.statistics (after_decided F limits history s app call (cause limits s app call) refl keeps)

-- what each step keeps holds after more entries
pub state_from-keeps : (F : State → Type 0) (limits : Limits) →
    ((history : List Entry) (s : State) (app : ℕ) (call : Call) → F s → F ((step limits history s app call).1)) →
    (history : List Entry) (s : State) (es : List Entry) → F s → F (state_from limits history s es)
state_from-keeps F limits keeps history s [] holds = holds
state_from-keeps F limits keeps history s (e ∷ es) holds =
    state_from-keeps F limits keeps (history ++ e ∷ []) ((step limits history s e.app e.call).1) es (keeps history s e.app e.call holds)

-- Standings. --

-- a step changes no application's being there
pub length-standings-step : (limits : Limits) (history : List Entry) (s : State) (app : ℕ) (call : Call) →
    length ((step limits history s app call).1).standings ≡ length s.standings
length-standings-step limits history s app call =
    after_step (λ t. length t.standings ≡ length s.standings) limits history s app call (record {
      same = refl;
      creates = λ depth name none. refl;
      subscribes = λ id pipe limit scope none other. refl;
      sends = λ sending id who number room. refl;
      receives = λ pipe. refl;
      deletes = λ pipe none. refl;
      sets = λ pipe bits none. refl;
      unsubscribes = λ id pipe none. refl;
      stands = λ pipe standing going. length-set s.standings (app - 1) standing;
      ends = length-set s.standings (app - 1) Ended;
      pools = λ next follows. refl;
      allocates = λ size none. refl;
      leaves = λ buf has. refl;
      records = λ t desk statistics is. is;
      passes = λ sending id who has asked. refl;
    })

-- after a history of so many applications there are so many standings
pub length-standings : (limits : Limits) (apps : ℕ) (history : List Entry) → length (state_after limits apps history).standings ≡ apps
length-standings limits apps history =
    state_from-keeps (λ t. length t.standings ≡ apps) limits
    (λ before s app call is. length-standings-step limits before s app call ∙ is)
    [] (opening limits apps) history (length-replicate apps _)

-- Numbers. --

-- above `low`, each above the one before, none above `top`
abbrev pub AreRising : ℕ → ℕ → List ℕ → Type 0
AreRising low top [] = low ≤ top
AreRising low top (n ∷ ns) = (low < n) × AreRising n top ns

-- the numbers of live pipes
abbrev pub pipe_numbers : State → List ℕ
pipe_numbers s = map (λ pipe. pipe.number) s.pipes

-- the numbers of live subscriptions
abbrev pub subscription_numbers : State → List ℕ
subscription_numbers s = map (λ sub. sub.number) s.subscriptions

-- live pipes and subscriptions stand in order of number, none above those that were made
pub record AreNumbered (s : State) : Type 0 where
  pub pipes : AreRising 0 s.pipes_created (pipe_numbers s)
  pub subscriptions : AreRising 0 s.subscriptions_made (subscription_numbers s)

AreRising-lower : (low next top : ℕ) (ns : List ℕ) → low ≤ next → AreRising next top ns → AreRising low top ns
AreRising-lower low next top [] below rising = omega arith
AreRising-lower low next top (n ∷ ns) below rising = (omega arith, rising.1)

AreRising-push : (low top : ℕ) (ns : List ℕ) → AreRising low top ns → AreRising low (top + 1) (ns ++ (top + 1) ∷ [])
AreRising-push low top [] rising = (omega arith, omega arith)
AreRising-push low top (n ∷ ns) rising = (rising.0, AreRising-push n top ns rising.1)

AreRising-filter : {X : Type 0} (number : X → ℕ) (p : X → Bool) (low top : ℕ) (xs : List X) → AreRising low top (map number xs) → AreRising low top (map number (filter p xs))
AreRising-filter number p low top [] rising = rising
AreRising-filter {X} number p low top (x ∷ xs) rising =
    elim (p x) as (λ b. AreRising low top (map number (cond {A = List X} b (x ∷ filter p xs) (filter p xs)))) [
      | true ↦ (rising.0, AreRising-filter number p (number x) top xs rising.1)
      | false ↦ AreRising-lower low (number x) top (map number (filter p xs)) (omega (arith, rising.0)) (AreRising-filter number p (number x) top xs rising.1)
    ]

-- a change that keeps a pipe's number keeps the numbers
pub pipe_numbers-with_pipe : (change : Pipe → Pipe) → ((pipe : Pipe) → (change pipe).number ≡ pipe.number) → (number : ℕ) (pipes : List Pipe) →
    map (λ pipe. pipe.number) (with_pipe change number pipes) ≡ map (λ pipe. pipe.number) pipes
pipe_numbers-with_pipe change keeps number [] = refl
pipe_numbers-with_pipe change keeps number (pipe ∷ pipes) =
    ap (λ n. n ∷ map (λ p. p.number) (with_pipe change number pipes))
    (elim (pipe.number == number) as (λ b. (cond {A = Pipe} b (change pipe) pipe).number ≡ pipe.number) [ true ↦ keeps pipe | false ↦ refl ])
    ∙ ap (λ ns. pipe.number ∷ ns) (pipe_numbers-with_pipe change keeps number pipes)

-- an offer keeps the pipe's number
pub number-offered : (sending : Sending) (sub : Subscription) (pipe : Pipe) → (offered sending sub pipe).number ≡ pipe.number
number-offered sending sub pipe = refl

-- a delivery keeps the numbers
pub pipe_numbers-deliver : (sending : Sending) (subs : List Subscription) (pipes : List Pipe) →
    map (λ pipe. pipe.number) (deliver sending subs pipes) ≡ map (λ pipe. pipe.number) pipes
pipe_numbers-deliver sending [] pipes = refl
pipe_numbers-deliver sending (sub ∷ subs) pipes =
    pipe_numbers-deliver sending subs (with_pipe (offered sending sub) sub.pipe pipes)
    ∙ pipe_numbers-with_pipe (offered sending sub) (number-offered sending sub) sub.pipe pipes

-- a step keeps the order of numbers
pub AreNumbered-step : (limits : Limits) (history : List Entry) (s : State) (app : ℕ) (call : Call) → AreNumbered s → AreNumbered ((step limits history s app call).1)
AreNumbered-step limits history s app call numbered =
    after_step AreNumbered limits history s app call (record {
      same = numbered;
      creates = λ depth name none. record {
        pipes = subst (AreRising 0 (s.pipes_created + 1)) (sym (map_push (λ (p : Pipe). p.number) s.pipes _)) (AreRising-push 0 s.pipes_created (pipe_numbers s) numbered.pipes);
        subscriptions = numbered.subscriptions;
      };
      subscribes = λ id pipe limit scope none other. record {
        pipes = numbered.pipes;
        subscriptions = subst (AreRising 0 (s.subscriptions_made + 1)) (sym (map_push (λ (x : Subscription). x.number) s.subscriptions _)) (AreRising-push 0 s.subscriptions_made (subscription_numbers s) numbered.subscriptions);
      };
      sends = λ sending id who number room. record {
        pipes = subst (AreRising 0 s.pipes_created) (sym (pipe_numbers-deliver sending (route s.subscriptions id) s.pipes)) numbered.pipes;
        subscriptions = numbered.subscriptions;
      };
      receives = λ pipe. record {
        pipes = subst (AreRising 0 s.pipes_created) (sym (pipe_numbers-with_pipe after_receive (λ p. refl) pipe s.pipes)) numbered.pipes;
        subscriptions = numbered.subscriptions;
      };
      deletes = λ pipe none. record {
        pipes = AreRising-filter (λ (p : Pipe). p.number) (λ p. not (p.number == pipe)) 0 s.pipes_created s.pipes numbered.pipes;
        subscriptions = AreRising-filter (λ (x : Subscription). x.number) (λ x. not (x.pipe == pipe)) 0 s.subscriptions_made s.subscriptions numbered.subscriptions;
      };
      sets = λ pipe bits none. record {
        pipes = subst (AreRising 0 s.pipes_created) (sym (pipe_numbers-with_pipe (with_bits bits) (λ p. refl) pipe s.pipes)) numbered.pipes;
        subscriptions = numbered.subscriptions;
      };
      unsubscribes = λ id pipe none. record {
        pipes = numbered.pipes;
        subscriptions = AreRising-filter (λ (x : Subscription). x.number) (λ x. not (x.id == id && x.pipe == pipe)) 0 s.subscriptions_made s.subscriptions numbered.subscriptions;
      };
      stands = λ pipe standing going. record {
        pipes = subst (AreRising 0 s.pipes_created) (sym (pipe_numbers-with_pipe after_receive (λ p. refl) pipe s.pipes)) numbered.pipes;
        subscriptions = numbered.subscriptions;
      };
      ends = record {
        pipes = AreRising-filter (λ (p : Pipe). p.number) (λ p. not (p.owner == app)) 0 s.pipes_created s.pipes numbered.pipes;
        subscriptions = AreRising-filter (λ (x : Subscription). x.number) (λ x. not (owns s.pipes app x.pipe)) 0 s.subscriptions_made s.subscriptions numbered.subscriptions;
      };
      pools = λ next follows. record { pipes = numbered.pipes; subscriptions = numbered.subscriptions };
      allocates = λ size none. record { pipes = numbered.pipes; subscriptions = numbered.subscriptions };
      leaves = λ buf has. record { pipes = numbered.pipes; subscriptions = numbered.subscriptions };
      records = λ t desk statistics is. record { pipes = is.pipes; subscriptions = is.subscriptions };
      passes = λ sending id who has asked. record {
        pipes = subst (AreRising 0 s.pipes_created) (sym (pipe_numbers-deliver sending (route s.subscriptions id) s.pipes)) numbered.pipes;
        subscriptions = numbered.subscriptions;
      };
    })

-- after every history
pub AreNumbered-after : (limits : Limits) (apps : ℕ) (history : List Entry) → AreNumbered (state_after limits apps history)
AreNumbered-after limits apps history =
    state_from-keeps AreNumbered limits (AreNumbered-step limits) [] (opening limits apps) history (record { pipes = omega arith; subscriptions = omega arith })

-- Counts. --

-- how far a step takes the counts
pub record AtMostOneMore (s t : State) : Type 0 where
  pub pipes : t.pipes_created ≤ s.pipes_created + 1
  pub subscriptions : t.subscriptions_made ≤ s.subscriptions_made + 1
  pub numbers : t.numbers_given ≤ s.numbers_given + 1

-- a step makes at most one pipe, one subscription and one send number
pub AtMostOneMore-step : (limits : Limits) (history : List Entry) (s : State) (app : ℕ) (call : Call) → AtMostOneMore s ((step limits history s app call).1)
AtMostOneMore-step limits history s app call =
    after_step (AtMostOneMore s) limits history s app call (record {
      same = record { pipes = omega arith; subscriptions = omega arith; numbers = omega arith };
      creates = λ depth name none. record { pipes = omega arith; subscriptions = omega arith; numbers = omega arith };
      subscribes = λ id pipe limit scope none other. record { pipes = omega arith; subscriptions = omega arith; numbers = omega arith };
      sends = λ sending id who number room. record { pipes = omega arith; subscriptions = omega arith; numbers = omega (arith, number) };
      receives = λ pipe. record { pipes = omega arith; subscriptions = omega arith; numbers = omega arith };
      deletes = λ pipe none. record { pipes = omega arith; subscriptions = omega arith; numbers = omega arith };
      sets = λ pipe bits none. record { pipes = omega arith; subscriptions = omega arith; numbers = omega arith };
      unsubscribes = λ id pipe none. record { pipes = omega arith; subscriptions = omega arith; numbers = omega arith };
      stands = λ pipe standing going. record { pipes = omega arith; subscriptions = omega arith; numbers = omega arith };
      ends = record { pipes = omega arith; subscriptions = omega arith; numbers = omega arith };
      pools = λ next follows. record { pipes = omega arith; subscriptions = omega arith; numbers = omega arith };
      allocates = λ size none. record { pipes = omega arith; subscriptions = omega arith; numbers = omega arith };
      leaves = λ buf has. record { pipes = omega arith; subscriptions = omega arith; numbers = omega arith };
      records = λ t desk statistics is. record { pipes = is.pipes; subscriptions = is.subscriptions; numbers = is.numbers };
      passes = λ sending id who has asked. record { pipes = omega arith; subscriptions = omega arith; numbers = omega arith };
    })

-- the counts are at most so high
pub record AreCounted (s : State) (entries : ℕ) : Type 0 where
  pub pipes : s.pipes_created ≤ entries
  pub subscriptions : s.subscriptions_made ≤ entries
  pub numbers : s.numbers_given ≤ entries

counted_from : (limits : Limits) (history : List Entry) (s : State) (es : List Entry) → AreCounted s (length history) → AreCounted (state_from limits history s es) (length (history ++ es))
counted_from limits history s [] counted = subst (λ (h : List Entry). AreCounted s (length h)) (sym (append-nil history)) counted
counted_from limits history s (e ∷ es) counted =
    let one = AtMostOneMore-step limits history s e.app e.call in
    let longer = length_push history e in
    let next = (step limits history s e.app e.call).1 in
    let now : AreCounted next (length (history ++ e ∷ [])) = record { pipes = omega arith; subscriptions = omega arith; numbers = omega arith } in
    subst (λ (h : List Entry). AreCounted (state_from limits (history ++ e ∷ []) next es) (length h)) (append_assoc history (e ∷ []) es) (counted_from limits (history ++ e ∷ []) next es now)

-- no count is higher than the number of entries
pub AreCounted-after : (limits : Limits) (apps : ℕ) (history : List Entry) → AreCounted (state_after limits apps history) (length history)
AreCounted-after limits apps history = counted_from limits [] (opening limits apps) history (record { pipes = omega arith; subscriptions = omega arith; numbers = omega arith })
