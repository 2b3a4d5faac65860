-- How an application stands after a legal history: as the last of its own entries leaves it.
use Rattle.std.proofs.Common.{◌≡◌, ℕ, zero, suc, ◌+◌, ◌-◌, ◌≤◌, ◌==◌, ◌&&◌, not, Bool, true, false, cond, true≢false, eqb-true, List, [], ◌∷◌, ◌++◌, replicate, slice_index_or, slice_set, Option, Some, None, IsTrue, refl, ap, sym, ◌∙◌, subst, arith}
use Rattle.fsw_base.specs.Limits.{Limits}
use Rattle.ccsds_msg.specs.Message.{message_id}
use Rattle.fsw_base.specs.declared.statuses.SbStatus.TheVariants.{BadArgument, MaxPipesMet, PipeCrErr, MaxMsgsMet, MaxDestsMet, MsgTooBig, BufAlocErr, NoMessage, BufferInvalid}
use Rattle.bus_words.specs.declared.calls.BusAnswer.{BusAnswer}
use Rattle.bus_words.specs.declared.calls.BusAnswer.TheVariants.{Got, Pending, TimeOut}
use Rattle.bus_words.specs.declared.history.Call.{Call}
use Rattle.bus_words.specs.declared.history.Call.TheVariants.{Create, Delete, SetOpts, GetOpts, Find, PipeName, Subscribe, Unsubscribe, Transmit, Receive, Pend, Look, Allocate, TransmitBuffer, Release, PoolCreate, PoolGet, PoolPut, PoolFigures, Register, SendEvent, ResetFilter, LogMode, ClearLog, Housekeeping, Figures, End}
use Rattle.bus_words.specs.declared.history.Entry.{Entry}
use Rattle.bus_words.specs.Bus.{State, Standing, Active, Waiting, Ended, Sending, Subscription, opening, standing_of, with_standing, is_empty, others_idle, is_subscribed, route}
use Rattle.bus_words.specs.Machine.{IsLegal, LegalFrom, accept, buffer_gone, cause, decided, makes_entry, may_call, oldest_number, packet_in, passed_along, reads_after, received, refused_state, sending_from, sending_in, sent_along, state_after, state_from, step}
use Rattle.bus_words.specs.Refusals.{Refusal, OfBus, OfPools, OfEvents, refusal_answer}
use Rattle.bus_words.specs.Runs.{own_entries, standing_by, standing_behind}
use Rattle.bus_words.proofs.Finds.{same-sym}
use Rattle.bus_words.proofs.LegalSteps.{standing_at, standing-ended, standing-step, waits_on}
use Rattle.bus_words.proofs.Steps.{with_subscription}

-- A step of the application's own. --

-- who is active, or waits on a pipe, is one of those that the bus knows, and its standing can be set
get_set : (xs : List Standing) (i : ℕ) (new : Standing) → (slice_index_or xs i Ended ≡ Ended → ⊥) → slice_index_or (slice_set xs i new) i Ended ≡ new
get_set [] i new some = absurd (some refl)
get_set (x ∷ xs) zero new some = refl
get_set (x ∷ xs) (suc i) new some = get_set xs i new some

minus : (app : ℕ) → suc app - 1 ≡ app
minus app = omega arith

standing-set_own : (s : State) (app : ℕ) (new : Standing) → (standing_of s app ≡ Ended → ⊥) → standing_of (with_standing s app new) app ≡ new
standing-set_own s zero new some = absurd (some refl)
standing-set_own s (suc app) new some =
    standing_at (with_standing s (suc app) new) app
    ∙ ap (λ n. slice_index_or (slice_set s.standings n new) app Ended) (minus app)
    ∙ get_set s.standings app new (λ is. some (standing_at s app ∙ is))

abbrev is_active : Standing → Bool
is_active Active = true
is_active other = false

abbrev is_ended : Standing → Bool
is_ended Ended = true
is_ended other = false

active_some : (standing : Standing) → standing ≡ Active → standing ≡ Ended → ⊥
active_some standing active over = true≢false (ap is_active (sym active ∙ over))

waiting_some : (standing : Standing) (pipe : ℕ) → standing ≡ Waiting pipe → standing ≡ Ended → ⊥
waiting_some standing pipe waiting over = true≢false (sym (ap is_ended (sym waiting ∙ over)))

-- calls that move no standing
by_choice : (s next : State) (app : ℕ) (test : Bool) → standing_of next app ≡ standing_of s app → standing_of (cond {A = State} test s next) app ≡ standing_of s app
by_choice s next app true same = refl
by_choice s next app false same = same

by_send : (limits : Limits) (s : State) (app : ℕ) (sending : Sending) (subs : List Subscription) → standing_of ((sent_along limits subs sending s).1) app ≡ standing_of s app
by_send limits s app sending [] = refl
by_send limits s app sending (sub ∷ subs) = refl

by_passing : (s : State) (app : ℕ) (sending : Sending) (subs : List Subscription) → standing_of ((passed_along subs sending s).1) app ≡ standing_of s app
by_passing s app sending [] = refl
by_passing s app sending (sub ∷ subs) = refl

refused_receive : (s : State) (app pipe : ℕ) (why : Refusal) → standing_of (refused_state s (Receive pipe) why) app ≡ standing_of s app
refused_receive s app pipe (OfBus BadArgument) = refl
refused_receive s app pipe (OfBus MaxPipesMet) = refl
refused_receive s app pipe (OfBus PipeCrErr) = refl
refused_receive s app pipe (OfBus MaxMsgsMet) = refl
refused_receive s app pipe (OfBus MaxDestsMet) = refl
refused_receive s app pipe (OfBus MsgTooBig) = refl
refused_receive s app pipe (OfBus BufAlocErr) = refl
refused_receive s app pipe (OfBus NoMessage) = refl
refused_receive s app pipe (OfBus BufferInvalid) = refl
refused_receive s app pipe (OfPools status) = refl
refused_receive s app pipe (OfEvents status) = refl

-- whether a call leaves standings alone
abbrev keeps_standing : Call → Bool
keeps_standing (Pend pipe) = false
keeps_standing (Look pipe) = false
keeps_standing End = false
keeps_standing call = true

refused_keeps : (s : State) (app : ℕ) (call : Call) (why : Refusal) → standing_of (refused_state s call why) app ≡ standing_of s app
refused_keeps s app (Create depth name) why = refl
refused_keeps s app (Delete pipe) why = refl
refused_keeps s app (SetOpts pipe bits) why = refl
refused_keeps s app (GetOpts pipe) why = refl
refused_keeps s app (Find name) why = refl
refused_keeps s app (PipeName pipe) why = refl
refused_keeps s app (Subscribe id pipe limit scope) why = refl
refused_keeps s app (Unsubscribe id pipe) why = refl
refused_keeps s app (Transmit bytes inc) why = refl
refused_keeps s app (Receive pipe) why = refused_receive s app pipe why
refused_keeps s app (Allocate size) why = refl
refused_keeps s app (TransmitBuffer buf bytes inc) why = refl
refused_keeps s app (Release buf) why = refl
refused_keeps s app (PoolCreate bytes) why = refl
refused_keeps s app (PoolGet pool size) why = refl
refused_keeps s app (PoolPut pool grant) why = refl
refused_keeps s app (PoolFigures pool) why = refl
refused_keeps s app (Register filters) why = refl
refused_keeps s app (SendEvent event kind text) why = refl
refused_keeps s app (ResetFilter event) why = refl
refused_keeps s app (LogMode mode) why = refl
refused_keeps s app ClearLog why = refl
refused_keeps s app Housekeeping why = refl
refused_keeps s app Figures why = refl
refused_keeps s app (Pend pipe) why = refl
refused_keeps s app (Look pipe) why = refl
refused_keeps s app End why = refl

accepted_keeps : (limits : Limits) (history : List Entry) (s : State) (app : ℕ) (call : Call) → keeps_standing call ≡ true →
    standing_of ((accept limits history s app call).1) app ≡ standing_of s app
accepted_keeps limits history s app (Create depth name) keeps = refl
accepted_keeps limits history s app (Delete pipe) keeps = refl
accepted_keeps limits history s app (SetOpts pipe bits) keeps = refl
accepted_keeps limits history s app (GetOpts pipe) keeps = refl
accepted_keeps limits history s app (Find name) keeps = refl
accepted_keeps limits history s app (PipeName pipe) keeps = refl
accepted_keeps limits history s app (Subscribe id pipe limit scope) keeps = by_choice s (with_subscription s id pipe limit scope) app (is_subscribed s.subscriptions id pipe) refl
accepted_keeps limits history s app (Unsubscribe id pipe) keeps = refl
accepted_keeps limits history s app (Transmit bytes inc) keeps = by_send limits s app (sending_from (reads_after limits history) s app bytes inc) (route s.subscriptions (message_id bytes))
accepted_keeps limits history s app (Receive pipe) keeps = refl
accepted_keeps limits history s app (Allocate size) keeps = refl
accepted_keeps limits history s app (TransmitBuffer buf bytes inc) keeps = by_passing (buffer_gone s app buf) app (sending_in (reads_after limits history) s app buf bytes inc) (route s.subscriptions (message_id bytes))
accepted_keeps limits history s app (Release buf) keeps = refl
accepted_keeps limits history s app (PoolCreate bytes) keeps = refl
accepted_keeps limits history s app (PoolGet pool size) keeps = refl
accepted_keeps limits history s app (PoolPut pool grant) keeps = refl
accepted_keeps limits history s app (PoolFigures pool) keeps = refl
accepted_keeps limits history s app (Register filters) keeps = refl
accepted_keeps limits history s app (SendEvent event kind text) keeps = refl
accepted_keeps limits history s app (ResetFilter event) keeps = refl
accepted_keeps limits history s app (LogMode mode) keeps = refl
accepted_keeps limits history s app ClearLog keeps = refl
accepted_keeps limits history s app Housekeeping keeps = by_send limits s app (sending_from (reads_after limits history) s app (packet_in limits s) true) (route s.subscriptions (message_id (packet_in limits s)))
accepted_keeps limits history s app Figures keeps = refl
accepted_keeps limits history s app (Pend pipe) keeps = absurd (true≢false (sym keeps))
accepted_keeps limits history s app (Look pipe) keeps = absurd (true≢false (sym keeps))
accepted_keeps limits history s app End keeps = absurd (true≢false (sym keeps))

decided_keeps : (limits : Limits) (history : List Entry) (s : State) (app : ℕ) (call : Call) (why : Option Refusal) → keeps_standing call ≡ true →
    standing_of ((decided limits history s app call why).1) app ≡ standing_of s app
decided_keeps limits history s app call (Some why) keeps = refused_keeps s app call why
decided_keeps limits history s app call None keeps = accepted_keeps limits history s app call keeps

-- such a call is one that an active application alone may make, and leaves it active
active_may : (standing : Standing) (call : Call) → keeps_standing call ≡ true → IsTrue (may_call standing call) → standing ≡ Active
active_may Active call keeps may = refl
active_may Ended call keeps may = absurd (true≢false (sym may))
active_may (Waiting at) (Create depth name) keeps may = absurd (true≢false (sym may))
active_may (Waiting at) (Delete pipe) keeps may = absurd (true≢false (sym may))
active_may (Waiting at) (SetOpts pipe bits) keeps may = absurd (true≢false (sym may))
active_may (Waiting at) (GetOpts pipe) keeps may = absurd (true≢false (sym may))
active_may (Waiting at) (Find name) keeps may = absurd (true≢false (sym may))
active_may (Waiting at) (PipeName pipe) keeps may = absurd (true≢false (sym may))
active_may (Waiting at) (Subscribe id pipe limit scope) keeps may = absurd (true≢false (sym may))
active_may (Waiting at) (Unsubscribe id pipe) keeps may = absurd (true≢false (sym may))
active_may (Waiting at) (Transmit bytes inc) keeps may = absurd (true≢false (sym may))
active_may (Waiting at) (Receive pipe) keeps may = absurd (true≢false (sym may))
active_may (Waiting at) (Allocate size) keeps may = absurd (true≢false (sym may))
active_may (Waiting at) (TransmitBuffer buf bytes inc) keeps may = absurd (true≢false (sym may))
active_may (Waiting at) (Release buf) keeps may = absurd (true≢false (sym may))
active_may (Waiting at) (PoolCreate bytes) keeps may = absurd (true≢false (sym may))
active_may (Waiting at) (PoolGet pool size) keeps may = absurd (true≢false (sym may))
active_may (Waiting at) (PoolPut pool grant) keeps may = absurd (true≢false (sym may))
active_may (Waiting at) (PoolFigures pool) keeps may = absurd (true≢false (sym may))
active_may (Waiting at) (Register filters) keeps may = absurd (true≢false (sym may))
active_may (Waiting at) (SendEvent event kind text) keeps may = absurd (true≢false (sym may))
active_may (Waiting at) (ResetFilter event) keeps may = absurd (true≢false (sym may))
active_may (Waiting at) (LogMode mode) keeps may = absurd (true≢false (sym may))
active_may (Waiting at) ClearLog keeps may = absurd (true≢false (sym may))
active_may (Waiting at) Housekeeping keeps may = absurd (true≢false (sym may))
active_may (Waiting at) Figures keeps may = absurd (true≢false (sym may))
active_may (Waiting at) (Pend pipe) keeps may = absurd (true≢false (sym may))
active_may (Waiting at) (Look pipe) keeps may = absurd (true≢false (sym keeps))
active_may (Waiting at) End keeps may = absurd (true≢false (sym keeps))

active_by : (call : Call) (answer : BusAnswer) → keeps_standing call ≡ true → standing_by call answer ≡ Active
active_by (Create depth name) answer keeps = refl
active_by (Delete pipe) answer keeps = refl
active_by (SetOpts pipe bits) answer keeps = refl
active_by (GetOpts pipe) answer keeps = refl
active_by (Find name) answer keeps = refl
active_by (PipeName pipe) answer keeps = refl
active_by (Subscribe id pipe limit scope) answer keeps = refl
active_by (Unsubscribe id pipe) answer keeps = refl
active_by (Transmit bytes inc) answer keeps = refl
active_by (Receive pipe) answer keeps = refl
active_by (Allocate size) answer keeps = refl
active_by (TransmitBuffer buf bytes inc) answer keeps = refl
active_by (Release buf) answer keeps = refl
active_by (PoolCreate bytes) answer keeps = refl
active_by (PoolGet pool size) answer keeps = refl
active_by (PoolPut pool grant) answer keeps = refl
active_by (PoolFigures pool) answer keeps = refl
active_by (Register filters) answer keeps = refl
active_by (SendEvent event kind text) answer keeps = refl
active_by (ResetFilter event) answer keeps = refl
active_by (LogMode mode) answer keeps = refl
active_by ClearLog answer keeps = refl
active_by Housekeeping answer keeps = refl
active_by Figures answer keeps = refl
active_by (Pend pipe) answer keeps = absurd (true≢false (sym keeps))
active_by (Look pipe) answer keeps = absurd (true≢false (sym keeps))
active_by End answer keeps = absurd (true≢false (sym keeps))

plain_step : (limits : Limits) (history : List Entry) (s : State) (app : ℕ) (call : Call) → keeps_standing call ≡ true → IsTrue (may_call (standing_of s app) call) →
    standing_of ((step limits history s app call).1) app ≡ standing_by call ((step limits history s app call).0)
plain_step limits history s app call keeps may =
    decided_keeps limits history s app call (cause limits s app call) keeps
    ∙ active_may (standing_of s app) call keeps may
    ∙ sym (active_by call ((step limits history s app call).0) keeps)

-- a receive that may wait
refused_pend : (pipe : ℕ) (why : Refusal) → standing_by (Pend pipe) (refusal_answer why) ≡ Active
refused_pend pipe (OfBus status) = refl
refused_pend pipe (OfPools status) = refl
refused_pend pipe (OfEvents status) = refl

pend_by : (s : State) (app pipe : ℕ) (empty idle : Bool) → standing_of s app ≡ Active →
    standing_of (cond {A = State} (empty && not idle) (with_standing (received s pipe) app (Waiting pipe)) (received s pipe)) app
    ≡ standing_by (Pend pipe) (cond {A = BusAnswer} (not empty) (Got (oldest_number s.pipes pipe)) (cond {A = BusAnswer} idle TimeOut Pending))
pend_by s app pipe false idle active = active
pend_by s app pipe true true active = active
pend_by s app pipe true false active = standing-set_own (received s pipe) app (Waiting pipe) (active_some (standing_of s app) active)

pend_decided : (limits : Limits) (history : List Entry) (s : State) (app pipe : ℕ) (why : Option Refusal) → standing_of s app ≡ Active →
    standing_of ((decided limits history s app (Pend pipe) why).1) app ≡ standing_by (Pend pipe) ((decided limits history s app (Pend pipe) why).0)
pend_decided limits history s app pipe (Some why) active = active ∙ sym (refused_pend pipe why)
pend_decided limits history s app pipe None active = pend_by s app pipe (is_empty s.pipes pipe) (others_idle s app) active

pend_may : (standing : Standing) (pipe : ℕ) → IsTrue (may_call standing (Pend pipe)) → standing ≡ Active
pend_may Active pipe may = refl
pend_may (Waiting at) pipe may = absurd (true≢false (sym may))
pend_may Ended pipe may = absurd (true≢false (sym may))

-- and one that looks again, which makes an entry only if it finds something
look_by : (s : State) (app pipe : ℕ) (empty idle : Bool) → standing_of s app ≡ Waiting pipe →
    IsTrue (makes_entry (Look pipe) (cond {A = BusAnswer} (not empty) (Got (oldest_number s.pipes pipe)) (cond {A = BusAnswer} idle TimeOut Pending))) →
    standing_of (cond {A = State} (empty && not idle) s (with_standing (received s pipe) app Active)) app ≡ Active
look_by s app pipe false idle waits entered = standing-set_own (received s pipe) app Active (waiting_some (standing_of s app) pipe waits)
look_by s app pipe true true waits entered = standing-set_own (received s pipe) app Active (waiting_some (standing_of s app) pipe waits)
look_by s app pipe true false waits entered = absurd (true≢false (sym entered))

-- how its own step leaves an application
own_step : (limits : Limits) (history : List Entry) (s : State) (app : ℕ) (call : Call) → IsTrue (may_call (standing_of s app) call) →
    IsTrue (makes_entry call ((step limits history s app call).0)) →
    standing_of ((step limits history s app call).1) app ≡ standing_by call ((step limits history s app call).0)
own_step limits history s app (Create depth name) may entered = plain_step limits history s app (Create depth name) refl may
own_step limits history s app (Delete pipe) may entered = plain_step limits history s app (Delete pipe) refl may
own_step limits history s app (SetOpts pipe bits) may entered = plain_step limits history s app (SetOpts pipe bits) refl may
own_step limits history s app (GetOpts pipe) may entered = plain_step limits history s app (GetOpts pipe) refl may
own_step limits history s app (Find name) may entered = plain_step limits history s app (Find name) refl may
own_step limits history s app (PipeName pipe) may entered = plain_step limits history s app (PipeName pipe) refl may
own_step limits history s app (Subscribe id pipe limit scope) may entered = plain_step limits history s app (Subscribe id pipe limit scope) refl may
own_step limits history s app (Unsubscribe id pipe) may entered = plain_step limits history s app (Unsubscribe id pipe) refl may
own_step limits history s app (Transmit bytes inc) may entered = plain_step limits history s app (Transmit bytes inc) refl may
own_step limits history s app (Receive pipe) may entered = plain_step limits history s app (Receive pipe) refl may
own_step limits history s app (Allocate size) may entered = plain_step limits history s app (Allocate size) refl may
own_step limits history s app (TransmitBuffer buf bytes inc) may entered = plain_step limits history s app (TransmitBuffer buf bytes inc) refl may
own_step limits history s app (Release buf) may entered = plain_step limits history s app (Release buf) refl may
own_step limits history s app (PoolCreate bytes) may entered = plain_step limits history s app (PoolCreate bytes) refl may
own_step limits history s app (PoolGet pool size) may entered = plain_step limits history s app (PoolGet pool size) refl may
own_step limits history s app (PoolPut pool grant) may entered = plain_step limits history s app (PoolPut pool grant) refl may
own_step limits history s app (PoolFigures pool) may entered = plain_step limits history s app (PoolFigures pool) refl may
own_step limits history s app (Register filters) may entered = plain_step limits history s app (Register filters) refl may
own_step limits history s app (SendEvent event kind text) may entered = plain_step limits history s app (SendEvent event kind text) refl may
own_step limits history s app (ResetFilter event) may entered = plain_step limits history s app (ResetFilter event) refl may
own_step limits history s app (LogMode mode) may entered = plain_step limits history s app (LogMode mode) refl may
own_step limits history s app ClearLog may entered = plain_step limits history s app ClearLog refl may
own_step limits history s app Housekeeping may entered = plain_step limits history s app Housekeeping refl may
own_step limits history s app Figures may entered = plain_step limits history s app Figures refl may
own_step limits history s app (Pend pipe) may entered =
    pend_decided limits history s app pipe (cause limits s app (Pend pipe)) (pend_may (standing_of s app) pipe may)
own_step limits history s app (Look pipe) may entered =
    look_by s app pipe (is_empty s.pipes pipe) (others_idle s app) (waits_on (standing_of s app) pipe may) entered
own_step limits history s app End may entered = standing-ended s app

-- how an application stands that stood so before these entries of its own
abbrev standing_then : Standing → List Entry → Standing
standing_then before [] = before
standing_then before (e ∷ es) = standing_then (standing_by e.call e.answer) es

stands_then : (limits : Limits) (history : List Entry) (s : State) (app : ℕ) (es : List Entry) → LegalFrom limits history s es →
    standing_of (state_from limits history s es) app ≡ standing_then (standing_of s app) (own_entries app es)
stands_then limits history s app [] legal = refl
stands_then limits history s app (e ∷ es) legal =
    stands_then limits (history ++ e ∷ []) next app es legal.4 ∙ by (e.app == app) refl
  where
    next : State
    next = (step limits history s e.app e.call).1

    own : standing_of next e.app ≡ standing_by e.call e.answer
    own = own_step limits history s e.app e.call legal.0 (subst (λ (a : BusAnswer). IsTrue (makes_entry e.call a)) legal.1 legal.2)
        ∙ ap (standing_by e.call) (sym legal.1)

    by : (b : Bool) → (e.app == app) ≡ b →
        standing_then (standing_of next app) (own_entries app es) ≡ standing_then (standing_of s app) (cond {A = List Entry} b (e ∷ own_entries app es) (own_entries app es))
    by true is = ap (λ t. standing_then t (own_entries app es)) (ap (standing_of next) (sym (eqb-true e.app app is)) ∙ own)
    by false is = ap (λ t. standing_then t (own_entries app es)) (standing-step limits history s e.app app e.call legal.0 (same-sym app e.app ∙ is))

-- that is as the last of them leaves it
as_last : (es : List Entry) → standing_then Active es ≡ standing_behind es
as_last [] = refl
as_last (e ∷ es) = one e es
  where
    one : (x : Entry) (xs : List Entry) → standing_then (standing_by x.call x.answer) xs ≡ standing_behind (x ∷ xs)
    one x [] = refl
    one x (y ∷ xs) = one y xs

active_at_first : (limits : Limits) (apps app : ℕ) → 1 ≤ app → app ≤ apps → standing_of (opening limits apps) app ≡ Active
active_at_first limits apps zero first known = absurd (omega (arith, first))
active_at_first limits apps (suc app) first known = standing_at (opening limits apps) app ∙ all apps app (omega (arith, known))
  where
    all : (n i : ℕ) → i + 1 ≤ n → slice_index_or (replicate n Active) i Ended ≡ Active
    all zero i fits = absurd (omega (arith, fits))
    all (suc n) zero fits = refl
    all (suc n) (suc i) fits = all n i (omega (arith, fits))

pub stands_by_last : (limits : Limits) (apps app : ℕ) (history : List Entry) → IsLegal limits apps history → 1 ≤ app → app ≤ apps →
    standing_of (state_after limits apps history) app ≡ standing_behind (own_entries app history)
stands_by_last limits apps app history legal first known =
    stands_then limits [] (opening limits apps) app history legal
    ∙ ap (λ (t : Standing). standing_then t (own_entries app history)) (active_at_first limits apps app first known)
    ∙ as_last (own_entries app history)
