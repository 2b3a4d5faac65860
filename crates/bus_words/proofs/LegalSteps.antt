-- What a step that its application may make leaves as it is: the other applications' pipes and standings; and that who
-- waits, waits on a pipe of its own.
use Rattle.std.proofs.Common.{◌≡◌, ℕ, zero, suc, ◌-◌, ◌≤◌, ◌==◌, ◌&&◌, not, Bool, true, false, cond, true≢false, eqb-true, eq-eqb, ne_eqb, IsTrue, List, [], ◌∷◌, ◌++◌, append-nil, append_assoc, replicate, slice_index_or, slice_set, Option, Some, None, refl, ap, sym, ◌∙◌, subst, arith}
use Rattle.std.proofs.lemmas.List.{get_or-set_other}
use Rattle.ccsds_msg.specs.Message.{message_id}
use Rattle.fsw_base.specs.declared.config.Scope.{Scope}
use Rattle.fsw_base.specs.declared.statuses.SbStatus.{SbStatus}
use Rattle.fsw_base.specs.declared.statuses.SbStatus.TheVariants.{BadArgument, MaxPipesMet, PipeCrErr, MaxMsgsMet, MaxDestsMet, MsgTooBig, BufAlocErr, NoMessage, BufferInvalid}
use Rattle.fsw_base.specs.Limits.{Limits}
use Rattle.fsw_base.specs.EventDesk.{Desk}
use Rattle.housekeeping.specs.Statistics.{Statistics}
use Rattle.fsw_base.specs.Grants.{Pools, pool_in, with_pool, after_create, after_get, after_put}
use Rattle.bus_words.specs.declared.history.Call.{Call}
use Rattle.bus_words.specs.declared.history.Call.TheVariants.{Create, Delete, SetOpts, GetOpts, Find, PipeName, Subscribe, Unsubscribe, Transmit, Receive, Pend, Look, Allocate, TransmitBuffer, Release, PoolCreate, PoolGet, PoolPut, PoolFigures, Register, SendEvent, ResetFilter, LogMode, ClearLog, Housekeeping, Figures, End}
use Rattle.bus_words.specs.declared.history.Entry.{Entry}
use Rattle.bus_words.specs.Bus.{Pipe, Subscription, State, Standing, Active, Waiting, Ended, Sending, opening, standing_of, with_pipe, with_bits, with_standing, is_empty, others_idle, route, is_subscribed, after_receive, owns, deliver, unsent_size}
use Rattle.bus_words.specs.Refusals.{Refusal, OfBus, OfPools, OfEvents}
use Rattle.bus_words.specs.Machine.{sending_from, packet_in, transmitted, recorded, by_bus, created, deleted, unsubscribed, stamped, front_of, reads_after, sent_along, allocated, buffer_gone, passed_along, received, ended, cause, unowned_cause, receive_cause, refused_if, accept, refused_state, decided, step, may_call, state_from, state_after, LegalFrom, IsLegal}
use Rattle.bus_words.proofs.Finds.{not_false, same-sym}
use Rattle.bus_words.proofs.Steps.{by_bus-none, by_bus-some, with_subscription, with_sent, AreNumbered, AreNumbered-step}
use Rattle.bus_words.proofs.Ties.{refused_none}
use Rattle.bus_words.proofs.KeptPipes.{single-rising, owns-one, owns-with_pipe, IsKept, kept-same, kept-push, kept-change, kept-deliver, kept-receive, kept-delete, kept-end}

-- Steps by cases. --

-- a fact of a state that each change of it keeps, made by this application as it may
pub record KeepsLegal (F : State → Type 0) (limits : Limits) (s : State) (app : ℕ) : Type 0 where
  pub same : F s
  pub creates : (depth : ℕ) (name : List ℕ) → F ((created s app depth name).1)
  pub subscribes : (id pipe limit : ℕ) (scope : Scope) → F (with_subscription s id pipe limit scope)
  pub sends : (sending : Sending) (id : ℕ) → F (with_sent limits s sending (route s.subscriptions id))
  pub receives : (pipe : ℕ) → owns s.pipes app pipe ≡ true → F (received s pipe)
  pub deletes : (pipe : ℕ) → owns s.pipes app pipe ≡ true → F (deleted s pipe)
  pub sets : (pipe bits : ℕ) → F (record s { pipes = with_pipe (with_bits bits) pipe s.pipes })
  pub unsubscribes : (id pipe : ℕ) → F (unsubscribed s id pipe)
  pub waits : (pipe : ℕ) → owns s.pipes app pipe ≡ true → F (with_standing (received s pipe) app (Waiting pipe))
  pub looks : (pipe : ℕ) → standing_of s app ≡ Waiting pipe → F (with_standing (received s pipe) app Active)
  pub ends : F (ended s app)
  pub pools : (pools : Pools) → F (record s { pools = pools })
  pub allocates : (size : ℕ) → F ((allocated limits s app size).1)
  pub leaves : (buf : ℕ) → F (buffer_gone s app buf)
  pub records : (t : State) (desk : Desk) (statistics : Statistics) → F t → F (record t { events = desk; statistics = statistics })
  pub passes : (sending : Sending) (id : ℕ) → F (record (buffer_gone s app sending.number) { pipes = deliver sending (route s.subscriptions id) s.pipes })

after_subscribe : (F : State → Type 0) (s next : State) (live : Bool) → F s → F next → F (cond {A = State} live s next)
after_subscribe F s next true same other = same
after_subscribe F s next false same other = other

after_send : (F : State → Type 0) (limits : Limits) (s : State) (sending : Sending) (subs : List Subscription) → F s → F (with_sent limits s sending subs) → F ((sent_along limits subs sending s).1)
after_send F limits s sending [] same sends = same
after_send F limits s sending (sub ∷ subs) same sends = sends

after_passing : (F : State → Type 0) (s : State) (sending : Sending) (subs : List Subscription) → F s → F (record s { pipes = deliver sending subs s.pipes }) →
    F ((passed_along subs sending s).1)
after_passing F s sending [] gone passes = gone
after_passing F s sending (sub ∷ subs) gone passes = passes

after_choice : (F : State → Type 0) (test : Bool) (one other : State) → F one → F other → F (cond {A = State} test one other)
after_choice F true one other first second = first
after_choice F false one other first second = second

no_message-owns : (s : State) (app pipe : ℕ) → receive_cause s app pipe ≡ Some NoMessage → owns s.pipes app pipe ≡ true
no_message-owns s app pipe is = by_test (owns s.pipes app pipe) is
  where
    is_bad : Option SbStatus → Bool
    is_bad (Some BadArgument) = true
    is_bad other = false

    by_test : (own : Bool) → refused_if (not own) BadArgument (refused_if (is_empty s.pipes pipe) NoMessage None) ≡ Some NoMessage → own ≡ true
    by_test true is = refl
    by_test false is = absurd (true≢false (ap is_bad is))

pub received-owns : (s : State) (app pipe : ℕ) → receive_cause s app pipe ≡ None → owns s.pipes app pipe ≡ true
received-owns s app pipe none = not_false (owns s.pipes app pipe) (refused_none _ _ _ none)

pub accepted-owns : (s : State) (app pipe : ℕ) → unowned_cause s app pipe ≡ None → owns s.pipes app pipe ≡ true
accepted-owns s app pipe none = not_false (owns s.pipes app pipe) (refused_none _ _ _ none)

pub waits_on : (standing : Standing) (pipe : ℕ) → IsTrue (may_call standing (Look pipe)) → standing ≡ Waiting pipe
waits_on Active pipe may = absurd (true≢false (sym may))
waits_on (Waiting other) pipe may = ap (λ n. Waiting n) (eqb-true other pipe may)
waits_on Ended pipe may = absurd (true≢false (sym may))

legal-refused_receive : (F : State → Type 0) (limits : Limits) (s : State) (app pipe : ℕ) (why : Refusal) → by_bus (receive_cause s app pipe) ≡ Some why →
    KeepsLegal F limits s app → F (refused_state s (Receive pipe) why)
legal-refused_receive F limits s app pipe (OfBus BadArgument) is keeps = keeps.same
legal-refused_receive F limits s app pipe (OfBus MaxPipesMet) is keeps = keeps.same
legal-refused_receive F limits s app pipe (OfBus PipeCrErr) is keeps = keeps.same
legal-refused_receive F limits s app pipe (OfBus MaxMsgsMet) is keeps = keeps.same
legal-refused_receive F limits s app pipe (OfBus MaxDestsMet) is keeps = keeps.same
legal-refused_receive F limits s app pipe (OfBus MsgTooBig) is keeps = keeps.same
legal-refused_receive F limits s app pipe (OfBus BufAlocErr) is keeps = keeps.same
legal-refused_receive F limits s app pipe (OfBus NoMessage) is keeps = keeps.receives pipe (no_message-owns s app pipe (by_bus-some (receive_cause s app pipe) NoMessage is))
legal-refused_receive F limits s app pipe (OfBus BufferInvalid) is keeps = keeps.same
legal-refused_receive F limits s app pipe (OfPools status) is keeps = keeps.same
legal-refused_receive F limits s app pipe (OfEvents status) is keeps = keeps.same

legal-refused : (F : State → Type 0) (limits : Limits) (history : List Entry) (s : State) (app : ℕ) (call : Call) (why : Refusal) → cause limits s app call ≡ Some why →
    KeepsLegal F limits s app → F (refused_state s call why)
legal-refused F limits history s app (Create depth name) why is keeps = keeps.same
legal-refused F limits history s app (Delete pipe) why is keeps = keeps.same
legal-refused F limits history s app (SetOpts pipe bits) why is keeps = keeps.same
legal-refused F limits history s app (GetOpts pipe) why is keeps = keeps.same
legal-refused F limits history s app (Find name) why is keeps = keeps.same
legal-refused F limits history s app (PipeName pipe) why is keeps = keeps.same
legal-refused F limits history s app (Subscribe id pipe limit scope) why is keeps = keeps.same
legal-refused F limits history s app (Unsubscribe id pipe) why is keeps = keeps.same
legal-refused F limits history s app (Transmit bytes inc) why is keeps = keeps.same
legal-refused F limits history s app (Receive pipe) why is keeps = legal-refused_receive F limits s app pipe why is keeps
legal-refused F limits history s app (Pend pipe) why is keeps = keeps.same
legal-refused F limits history s app (Look pipe) why is keeps = keeps.same
legal-refused F limits history s app (Allocate size) why is keeps = keeps.same
legal-refused F limits history s app (TransmitBuffer buf bytes inc) why is keeps = keeps.same
legal-refused F limits history s app (Release buf) why is keeps = keeps.same
legal-refused F limits history s app (PoolCreate bytes) why is keeps = keeps.same
legal-refused F limits history s app (PoolGet pool size) why is keeps = keeps.same
legal-refused F limits history s app (PoolPut pool grant) why is keeps = keeps.pools (with_pool s.pools pool (after_put (pool_in s.pools pool) grant))
legal-refused F limits history s app (PoolFigures pool) why is keeps = keeps.same
legal-refused F limits history s app (Register filters) why is keeps = keeps.same
legal-refused F limits history s app (SendEvent event kind text) why is keeps = keeps.same
legal-refused F limits history s app (ResetFilter event) why is keeps = keeps.same
legal-refused F limits history s app (LogMode mode) why is keeps = keeps.same
legal-refused F limits history s app ClearLog why is keeps = keeps.same
legal-refused F limits history s app Housekeeping why is keeps = keeps.same
legal-refused F limits history s app Figures why is keeps = keeps.same
legal-refused F limits history s app End why is keeps = keeps.same

legal-transmit : (F : State → Type 0) (limits : Limits) (history : List Entry) (s : State) (app : ℕ) (bytes : List ℕ) (inc : Bool) →
    KeepsLegal F limits s app → F ((transmitted (reads_after limits history) limits s app bytes inc).1)
legal-transmit F limits history s app bytes inc keeps =
    after_send F limits s (sending_from (reads_after limits history) s app bytes inc) (route s.subscriptions (message_id bytes)) keeps.same
    (keeps.sends (sending_from (reads_after limits history) s app bytes inc) (message_id bytes))

legal-accepted : (F : State → Type 0) (limits : Limits) (history : List Entry) (s : State) (app : ℕ) (call : Call) →
    cause limits s app call ≡ None → IsTrue (may_call (standing_of s app) call) → KeepsLegal F limits s app → F ((accept limits history s app call).1)
legal-accepted F limits history s app (Create depth name) none may keeps = keeps.creates depth name
legal-accepted F limits history s app (Delete pipe) none may keeps = keeps.deletes pipe (accepted-owns s app pipe (by_bus-none (unowned_cause s app pipe) none))
legal-accepted F limits history s app (SetOpts pipe bits) none may keeps = keeps.sets pipe bits
legal-accepted F limits history s app (GetOpts pipe) none may keeps = keeps.same
legal-accepted F limits history s app (Find name) none may keeps = keeps.same
legal-accepted F limits history s app (PipeName pipe) none may keeps = keeps.same
legal-accepted F limits history s app (Subscribe id pipe limit scope) none may keeps =
    after_subscribe F s (with_subscription s id pipe limit scope) (is_subscribed s.subscriptions id pipe) keeps.same (keeps.subscribes id pipe limit scope)
legal-accepted F limits history s app (Unsubscribe id pipe) none may keeps = keeps.unsubscribes id pipe
legal-accepted F limits history s app (Transmit bytes inc) none may keeps = legal-transmit F limits history s app bytes inc keeps
legal-accepted F limits history s app (Receive pipe) none may keeps = keeps.receives pipe (received-owns s app pipe (by_bus-none (receive_cause s app pipe) none))
legal-accepted F limits history s app (Pend pipe) none may keeps =
    after_choice F (is_empty s.pipes pipe && not (others_idle s app)) (with_standing (received s pipe) app (Waiting pipe)) (received s pipe)
    (keeps.waits pipe (accepted-owns s app pipe (by_bus-none (unowned_cause s app pipe) none)))
    (keeps.receives pipe (accepted-owns s app pipe (by_bus-none (unowned_cause s app pipe) none)))
legal-accepted F limits history s app (Look pipe) none may keeps =
    after_choice F (is_empty s.pipes pipe && not (others_idle s app)) s (with_standing (received s pipe) app Active)
    keeps.same (keeps.looks pipe (waits_on (standing_of s app) pipe may))
legal-accepted F limits history s app (Allocate size) none may keeps = keeps.allocates size
legal-accepted F limits history s app (TransmitBuffer buf bytes inc) none may keeps =
    let sending : Sending = record { sender = app; number = buf; asked = unsent_size s.unsent app buf; message = stamped (reads_after limits history) (front_of bytes) inc } in
    after_passing F (buffer_gone s app buf) sending (route s.subscriptions (message_id bytes)) (keeps.leaves buf) (keeps.passes sending (message_id bytes))
legal-accepted F limits history s app (Release buf) none may keeps = keeps.leaves buf
legal-accepted F limits history s app (PoolCreate bytes) none may keeps = keeps.pools (after_create s.pools bytes)
legal-accepted F limits history s app (PoolGet pool size) none may keeps = keeps.pools (with_pool s.pools pool (after_get (pool_in s.pools pool) app size))
legal-accepted F limits history s app (PoolPut pool grant) none may keeps = keeps.pools (with_pool s.pools pool (after_put (pool_in s.pools pool) grant))
legal-accepted F limits history s app (PoolFigures pool) none may keeps = keeps.same
legal-accepted F limits history s app (Register filters) none may keeps = keeps.same
legal-accepted F limits history s app (SendEvent event kind text) none may keeps = keeps.same
legal-accepted F limits history s app (ResetFilter event) none may keeps = keeps.same
legal-accepted F limits history s app (LogMode mode) none may keeps = keeps.same
legal-accepted F limits history s app ClearLog none may keeps = keeps.same
legal-accepted F limits history s app Housekeeping none may keeps = legal-transmit F limits history s app (packet_in limits s) true keeps
legal-accepted F limits history s app Figures none may keeps = keeps.same
legal-accepted F limits history s app End none may keeps = keeps.ends

legal-decided : (F : State → Type 0) (limits : Limits) (history : List Entry) (s : State) (app : ℕ) (call : Call) (why : Option Refusal) →
    cause limits s app call ≡ why → IsTrue (may_call (standing_of s app) call) → KeepsLegal F limits s app → F ((decided limits history s app call why).1)
legal-decided F limits history s app call (Some why) is may keeps = legal-refused F limits history s app call why is keeps
legal-decided F limits history s app call None is may keeps = legal-accepted F limits history s app call is may keeps

-- what each change keeps holds after a step that the application may make
pub legal-step : (F : State → Type 0) (limits : Limits) (history : List Entry) (s : State) (app : ℕ) (call : Call) →
    IsTrue (may_call (standing_of s app) call) → KeepsLegal F limits s app → F ((step limits history s app call).1)
legal-step F limits history s app call may keeps =
    let made = decided limits history s app call (cause limits s app call) in
    let next = recorded limits s app call made in
    keeps.records made.1 next.1.events next.1.statistics (legal-decided F limits history s app call (cause limits s app call) refl may keeps)

-- Standings. --

-- an application that makes a call has a number
pub caller-first : (s : State) (app : ℕ) (call : Call) → IsTrue (may_call (standing_of s app) call) → 1 ≤ app
caller-first s zero call may = absurd (true≢false (sym may))
caller-first s (suc app) call may = omega arith

minus : (app : ℕ) → suc app - 1 ≡ app
minus app = omega arith

pub standing_at : (s : State) (app : ℕ) → standing_of s (suc app) ≡ slice_index_or s.standings app Ended
standing_at s app =
    ap (λ b. cond {A = Standing} b Ended (slice_index_or s.standings (suc app - 1) Ended)) (ne_eqb (suc app) 0 (λ is. omega (arith, is)))
    ∙ ap (λ n. slice_index_or s.standings n Ended) (minus app)

-- a change of one application's standing
pub standing-other : (s : State) (app other : ℕ) (standing : Standing) → 1 ≤ app → (other == app) ≡ false →
    standing_of (with_standing s app standing) other ≡ standing_of s other
standing-other s app zero standing first differ = refl
standing-other s app (suc other) standing first differ =
    standing_at (with_standing s app standing) other
    ∙ get_or-set_other s.standings (app - 1) other standing Ended (λ same. true≢false (sym (eq-eqb (suc other) app (omega (arith, same, first))) ∙ differ))
    ∙ sym (standing_at s other)

-- a step changes no other application's standing
pub standing-step : (limits : Limits) (history : List Entry) (s : State) (app other : ℕ) (call : Call) → IsTrue (may_call (standing_of s app) call) →
    (other == app) ≡ false → standing_of ((step limits history s app call).1) other ≡ standing_of s other
standing-step limits history s app other call may differ =
    let first = caller-first s app call may in
    legal-step (λ t. standing_of t other ≡ standing_of s other) limits history s app call may (record {
      same = refl;
      creates = λ depth name. refl;
      subscribes = λ id pipe limit scope. refl;
      sends = λ sending id. refl;
      receives = λ pipe own. refl;
      deletes = λ pipe own. refl;
      sets = λ pipe bits. refl;
      unsubscribes = λ id pipe. refl;
      waits = λ pipe own. standing-other s app other (Waiting pipe) first differ;
      looks = λ pipe own. standing-other s app other Active first differ;
      ends = standing-other s app other Ended first differ;
      pools = λ pools. refl;
      allocates = λ size. refl;
      leaves = λ buf. refl;
      records = λ t desk statistics is. is;
      passes = λ sending id. refl;
    })

-- a fact of the new standing and of the old one is one of an application's standing once it is set
standing-set : (F : Standing → Type 0) (s : State) (app : ℕ) (standing : Standing) → F standing → F (standing_of s app) → F (standing_of (with_standing s app standing) app)
standing-set F s zero standing new old = old
standing-set F s (suc app) standing new old =
    subst F (sym (standing_at (with_standing s (suc app) standing) app))
    (subst (λ n. F (slice_index_or (slice_set s.standings n standing) app Ended)) (sym (minus app))
    (get_set s.standings app (subst F (standing_at s app) old)))
  where
    get_set : (xs : List Standing) (i : ℕ) → F (slice_index_or xs i Ended) → F (slice_index_or (slice_set xs i standing) i Ended)
    get_set [] i old = old
    get_set (x ∷ xs) zero old = new
    get_set (x ∷ xs) (suc i) old = get_set xs i old

get_ended : (xs : List Standing) (i : ℕ) → slice_index_or (slice_set xs i Ended) i Ended ≡ Ended
get_ended [] i = refl
get_ended (x ∷ xs) zero = refl
get_ended (x ∷ xs) (suc i) = get_ended xs i

-- who ended has ended
pub standing-ended : (s : State) (app : ℕ) → standing_of (ended s app) app ≡ Ended
standing-ended s zero = refl
standing-ended s (suc app) =
    standing_at (ended s (suc app)) app
    ∙ ap (λ n. slice_index_or (slice_set s.standings n Ended) app Ended) (minus app)
    ∙ get_ended s.standings app

-- Waiting. --

-- who waits, waits on a pipe of its own
abbrev pub WaitsOwn : List Pipe → ℕ → Standing → Type 0
WaitsOwn pipes app Active = Unit {0}
WaitsOwn pipes app (Waiting pipe) = owns pipes app pipe ≡ true
WaitsOwn pipes app Ended = Unit {0}

waits-kept : (pipes now : List Pipe) (app : ℕ) (standing : Standing) → ((pipe : ℕ) → owns now app pipe ≡ owns pipes app pipe) → WaitsOwn pipes app standing → WaitsOwn now app standing
waits-kept pipes now app Active same waits = tt
waits-kept pipes now app (Waiting pipe) same waits = same pipe ∙ waits
waits-kept pipes now app Ended same waits = tt

waits-active : (pipes : List Pipe) (app : ℕ) (standing : Standing) → standing ≡ Active → WaitsOwn pipes app standing
waits-active pipes app standing is = subst (WaitsOwn pipes app) (sym is) tt

waits-ended : (s : State) (who : ℕ) → WaitsOwn (ended s who).pipes who (standing_of (ended s who) who)
waits-ended s who = subst (WaitsOwn (ended s who).pipes who) (sym (standing-ended s who)) tt

-- pipes in order of number, and each that waits on its own
pub record AreWaiters (s : State) : Type 0 where
  pub numbered : AreNumbered s
  pub waits : (app : ℕ) → WaitsOwn s.pipes app (standing_of s app)

-- a step leaves another application's pipes
pub kept-step : (limits : Limits) (history : List Entry) (s : State) (who app pipe : ℕ) (call : Call) → AreWaiters s → IsTrue (may_call (standing_of s who) call) →
    (app == who) ≡ false → IsKept s.pipes ((step limits history s who call).1).pipes app pipe
kept-step limits history s who app pipe call waiters may differ =
    let single = single-rising 0 s.pipes_created s.pipes waiters.numbered.pipes in
    let takes : (at : ℕ) → owns s.pipes who at ≡ true → IsKept s.pipes (with_pipe after_receive at s.pipes) app pipe =
    λ at own. kept-receive s.pipes app at pipe (owns-one s.pipes who app at single differ own) in
    let differs : (who == app) ≡ false = same-sym who app ∙ differ in
    legal-step (λ t. IsKept s.pipes t.pipes app pipe) limits history s who call may (record {
      same = kept-same s.pipes app pipe;
      creates = λ depth name. kept-push s.pipes _ app pipe differs;
      subscribes = λ id at limit scope. kept-same s.pipes app pipe;
      sends = λ sending id. kept-deliver sending (route s.subscriptions id) s.pipes app pipe;
      receives = takes;
      deletes = λ at own. kept-delete s.pipes app at pipe (owns-one s.pipes who app at single differ own);
      sets = λ at bits. kept-change (with_bits bits) (λ p. refl) (λ p. refl) (λ p. refl) at s.pipes app pipe;
      unsubscribes = λ id at. kept-same s.pipes app pipe;
      waits = takes;
      looks = λ at is. takes at (subst (WaitsOwn s.pipes who) is (waiters.waits who));
      ends = kept-end s.pipes app who pipe single differ;
      pools = λ pools. kept-same s.pipes app pipe;
      allocates = λ size. kept-same s.pipes app pipe;
      leaves = λ buf. kept-same s.pipes app pipe;
      records = λ t desk statistics is. is;
      passes = λ sending id. kept-deliver sending (route s.subscriptions id) s.pipes app pipe;
    })

-- an active application's step
waits-from_active : (limits : Limits) (history : List Entry) (s : State) (who : ℕ) (call : Call) → standing_of s who ≡ Active → IsTrue (may_call (standing_of s who) call) →
    WaitsOwn ((step limits history s who call).1).pipes who (standing_of ((step limits history s who call).1) who)
waits-from_active limits history s who call is may =
    legal-step (λ t. WaitsOwn t.pipes who (standing_of t who)) limits history s who call may (record {
      same = waits-active s.pipes who (standing_of s who) is;
      creates = λ depth name. waits-active _ who (standing_of s who) is;
      subscribes = λ id pipe limit scope. waits-active _ who (standing_of s who) is;
      sends = λ sending id. waits-active _ who (standing_of s who) is;
      receives = λ pipe own. waits-active _ who (standing_of s who) is;
      deletes = λ pipe own. waits-active _ who (standing_of s who) is;
      sets = λ pipe bits. waits-active _ who (standing_of s who) is;
      unsubscribes = λ id pipe. waits-active _ who (standing_of s who) is;
      waits = λ pipe own.
          let taken = with_pipe after_receive pipe s.pipes in
          standing-set (WaitsOwn taken who) (received s pipe) who (Waiting pipe)
          (owns-with_pipe after_receive (λ p. refl) (λ p. refl) pipe s.pipes who pipe ∙ own)
          (waits-active taken who (standing_of s who) is);
      looks = λ pipe on. standing-set (WaitsOwn _ who) (received s pipe) who Active tt (waits-active _ who (standing_of s who) is);
      ends = waits-ended s who;
      pools = λ pools. waits-active s.pipes who (standing_of s who) is;
      allocates = λ size. waits-active s.pipes who (standing_of s who) is;
      leaves = λ buf. waits-active s.pipes who (standing_of s who) is;
      records = λ t desk statistics is. is;
      passes = λ sending id. waits-active _ who (standing_of s who) is;
    })

-- the step of one that waits
waits-from_waiting : (limits : Limits) (history : List Entry) (s : State) (who at : ℕ) (call : Call) → standing_of s who ≡ Waiting at → owns s.pipes who at ≡ true →
    IsTrue (may_call (Waiting at) call) →
    WaitsOwn ((step limits history s who call).1).pipes who (standing_of ((step limits history s who call).1) who)
waits-from_waiting limits history s who at (Create depth name) is own may = absurd (true≢false (sym may))
waits-from_waiting limits history s who at (Delete pipe) is own may = absurd (true≢false (sym may))
waits-from_waiting limits history s who at (SetOpts pipe bits) is own may = absurd (true≢false (sym may))
waits-from_waiting limits history s who at (GetOpts pipe) is own may = absurd (true≢false (sym may))
waits-from_waiting limits history s who at (Find name) is own may = absurd (true≢false (sym may))
waits-from_waiting limits history s who at (PipeName pipe) is own may = absurd (true≢false (sym may))
waits-from_waiting limits history s who at (Subscribe id pipe limit scope) is own may = absurd (true≢false (sym may))
waits-from_waiting limits history s who at (Unsubscribe id pipe) is own may = absurd (true≢false (sym may))
waits-from_waiting limits history s who at (Transmit bytes inc) is own may = absurd (true≢false (sym may))
waits-from_waiting limits history s who at (Receive pipe) is own may = absurd (true≢false (sym may))
waits-from_waiting limits history s who at (Pend pipe) is own may = absurd (true≢false (sym may))
waits-from_waiting limits history s who at (Allocate size) is own may = absurd (true≢false (sym may))
waits-from_waiting limits history s who at (TransmitBuffer buf bytes inc) is own may = absurd (true≢false (sym may))
waits-from_waiting limits history s who at (Release buf) is own may = absurd (true≢false (sym may))
waits-from_waiting limits history s who at (PoolCreate bytes) is own may = absurd (true≢false (sym may))
waits-from_waiting limits history s who at (PoolGet pool size) is own may = absurd (true≢false (sym may))
waits-from_waiting limits history s who at (PoolPut pool grant) is own may = absurd (true≢false (sym may))
waits-from_waiting limits history s who at (PoolFigures pool) is own may = absurd (true≢false (sym may))
waits-from_waiting limits history s who at (Register filters) is own may = absurd (true≢false (sym may))
waits-from_waiting limits history s who at (SendEvent event kind text) is own may = absurd (true≢false (sym may))
waits-from_waiting limits history s who at (ResetFilter event) is own may = absurd (true≢false (sym may))
waits-from_waiting limits history s who at (LogMode mode) is own may = absurd (true≢false (sym may))
waits-from_waiting limits history s who at ClearLog is own may = absurd (true≢false (sym may))
waits-from_waiting limits history s who at Housekeeping is own may = absurd (true≢false (sym may))
waits-from_waiting limits history s who at Figures is own may = absurd (true≢false (sym may))
waits-from_waiting limits history s who at (Look pipe) is own may =
    let before : WaitsOwn s.pipes who (standing_of s who) = subst (WaitsOwn s.pipes who) (sym is) own in
    let taken = with_pipe after_receive pipe s.pipes in
    after_choice (λ t. WaitsOwn t.pipes who (standing_of t who)) (is_empty s.pipes pipe && not (others_idle s who)) s (with_standing (received s pipe) who Active)
    before
    (standing-set (WaitsOwn taken who) (received s pipe) who Active tt
    (waits-kept s.pipes taken who (standing_of s who) (owns-with_pipe after_receive (λ p. refl) (λ p. refl) pipe s.pipes who) before))
waits-from_waiting limits history s who at End is own may = waits-ended s who

waits-own_step : (limits : Limits) (history : List Entry) (s : State) (who : ℕ) (call : Call) (standing : Standing) → standing_of s who ≡ standing → WaitsOwn s.pipes who standing →
    IsTrue (may_call (standing_of s who) call) →
    WaitsOwn ((step limits history s who call).1).pipes who (standing_of ((step limits history s who call).1) who)
waits-own_step limits history s who call Active is own may = waits-from_active limits history s who call is may
waits-own_step limits history s who call (Waiting at) is own may = waits-from_waiting limits history s who at call is own (subst (λ st. IsTrue (may_call st call)) is may)
waits-own_step limits history s who call Ended is own may = absurd (true≢false (sym (subst (λ st. IsTrue (may_call st call)) is may)))

-- a step keeps who waits on pipes of their own
pub AreWaiters-step : (limits : Limits) (history : List Entry) (s : State) (who : ℕ) (call : Call) → AreWaiters s → IsTrue (may_call (standing_of s who) call) →
    AreWaiters ((step limits history s who call).1)
AreWaiters-step limits history s who call waiters may = record {
  numbered = AreNumbered-step limits history s who call waiters.numbered;
  waits = λ app. elim (app == who) as (λ b. (app == who) ≡ b → WaitsOwn next.pipes app (standing_of next app)) [
    | true ↦ λ is. subst (λ n. WaitsOwn next.pipes n (standing_of next n)) (sym (eqb-true app who is))
        (waits-own_step limits history s who call (standing_of s who) refl (waiters.waits who) may)
    | false ↦ λ differ.
        subst (WaitsOwn next.pipes app) (sym (standing-step limits history s who app call may differ))
        (waits-kept s.pipes next.pipes app (standing_of s app) (λ pipe. (kept-step limits history s who app pipe call waiters may differ).owned) (waiters.waits app))
  ] refl;
}
  where
    next : State
    next = (step limits history s who call).1

-- at the opening nobody waits
pub AreWaiters-opening : (limits : Limits) (apps : ℕ) → AreWaiters (opening limits apps)
AreWaiters-opening limits apps = record {
  numbered = record { pipes = omega arith; subscriptions = omega arith };
  waits = at_first;
}
  where
    nobody : (n i app : ℕ) → WaitsOwn [] app (slice_index_or (replicate n Active) i Ended)
    nobody zero i app = tt
    nobody (suc n) zero app = tt
    nobody (suc n) (suc i) app = nobody n i app

    at_first : (app : ℕ) → WaitsOwn [] app (standing_of (opening limits apps) app)
    at_first zero = tt
    at_first (suc app) = subst (WaitsOwn [] (suc app)) (sym (standing_at (opening limits apps) app)) (nobody apps app (suc app))

waiters-from : (limits : Limits) (history : List Entry) (s : State) (es : List Entry) → AreWaiters s → LegalFrom limits history s es → AreWaiters (state_from limits history s es)
waiters-from limits history s [] waiters legal = waiters
waiters-from limits history s (e ∷ es) waiters legal =
    waiters-from limits (history ++ e ∷ []) ((step limits history s e.app e.call).1) es (AreWaiters-step limits history s e.app e.call waiters legal.0) legal.4

-- after every legal history
pub AreWaiters-after : (limits : Limits) (apps : ℕ) (history : List Entry) → IsLegal limits apps history → AreWaiters (state_after limits apps history)
AreWaiters-after limits apps history legal = waiters-from limits [] (opening limits apps) history (AreWaiters-opening limits apps) legal

-- the last entry of a legal history: its application may make its call, and is answered by the step
pub legal-last : (limits : Limits) (history : List Entry) (s : State) (es : List Entry) (e : Entry) → LegalFrom limits history s (es ++ e ∷ []) →
    LegalFrom limits history s es × IsTrue (may_call (standing_of (state_from limits history s es) e.app) e.call)
    × (e.answer ≡ (step limits (history ++ es) (state_from limits history s es) e.app e.call).0)
legal-last limits history s [] e legal = (tt, legal.0, legal.1 ∙ ap (λ h. (step limits h s e.app e.call).0) (sym (append-nil history)))
legal-last limits history s (x ∷ es) e legal =
    let next = (step limits history s x.app x.call).1 in
    let rest = legal-last limits (history ++ x ∷ []) next es e legal.4 in (
      (legal.0, legal.1, legal.2, legal.3, rest.0),
      rest.1,
      rest.2 ∙ ap (λ h. (step limits h (state_from limits (history ++ x ∷ []) next es) e.app e.call).0) (append_assoc history (x ∷ []) es),
    )

-- the first entries of a legal history are one
pub legal-front : (limits : Limits) (history : List Entry) (s : State) (es rest : List Entry) → LegalFrom limits history s (es ++ rest) → LegalFrom limits history s es
legal-front limits history s [] rest legal = tt
legal-front limits history s (e ∷ es) rest legal =
    (legal.0, legal.1, legal.2, legal.3, legal-front limits (history ++ e ∷ []) ((step limits history s e.app e.call).1) es rest legal.4)
