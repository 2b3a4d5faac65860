-- The answers of a legal history are such as their calls can get.
use Rattle.std.proofs.Common.{◌≡◌, ℕ, not, Bool, true, false, if◌then◌else◌, List, [], ◌∷◌, ◌++◌, Option, Some, None, All, IsTrue, refl, ap, ◌∙◌}
use Rattle.std.proofs.lemmas.List.Elements.{All-cons, All-nil}
use Rattle.fsw_base.specs.Limits.{Limits}
use Rattle.bus_words.specs.declared.calls.BusAnswer.TheVariants.{Got, TimeOut, Pending}
use Rattle.bus_words.specs.declared.history.Call.{Call}
use Rattle.bus_words.specs.declared.history.Call.TheVariants.{Create, Delete, SetOpts, GetOpts, Find, PipeName, Subscribe, Unsubscribe, Transmit, Receive, Pend, Look, Allocate, TransmitBuffer, Release, PoolCreate, PoolGet, PoolPut, PoolFigures, Register, SendEvent, ResetFilter, LogMode, ClearLog, Housekeeping, Figures, End}
use Rattle.bus_words.specs.declared.history.Entry.{Entry}
use Rattle.bus_words.specs.Bus.{State, Sending, Subscription, is_empty, others_idle}
use Rattle.bus_words.specs.Refusals.{Refusal, OfBus, OfPools, OfEvents, refusal_answer}
use Rattle.bus_words.specs.Machine.{cause, decided, sent_along, passed_along, step, LegalFrom}
use Rattle.run_report.specs.ReadBack.{can_answer}

sent_answer : (limits : Limits) (bytes : List ℕ) (inc : Bool) (subs : List Subscription) (sending : Sending) (s : State) →
    can_answer (Transmit bytes inc) (sent_along limits subs sending s).0 ≡ true
sent_answer limits bytes inc [] sending s = refl
sent_answer limits bytes inc (sub ∷ subs) sending s = refl

packet_answer : (limits : Limits) (subs : List Subscription) (sending : Sending) (s : State) →
    can_answer Housekeeping (sent_along limits subs sending s).0 ≡ true
packet_answer limits [] sending s = refl
packet_answer limits (sub ∷ subs) sending s = refl

passed_answer : (buf : ℕ) (bytes : List ℕ) (inc : Bool) (subs : List Subscription) (sending : Sending) (s : State) →
    can_answer (TransmitBuffer buf bytes inc) (passed_along subs sending s).0 ≡ true
passed_answer buf bytes inc [] sending s = refl
passed_answer buf bytes inc (sub ∷ subs) sending s = refl

-- any call may be refused
refused_answer : (call : Call) (why : Refusal) → can_answer call (refusal_answer why) ≡ true
refused_answer (Create depth name) (OfBus status) = refl
refused_answer (Create depth name) (OfPools status) = refl
refused_answer (Create depth name) (OfEvents status) = refl
refused_answer (Delete pipe) (OfBus status) = refl
refused_answer (Delete pipe) (OfPools status) = refl
refused_answer (Delete pipe) (OfEvents status) = refl
refused_answer (SetOpts pipe bits) (OfBus status) = refl
refused_answer (SetOpts pipe bits) (OfPools status) = refl
refused_answer (SetOpts pipe bits) (OfEvents status) = refl
refused_answer (GetOpts pipe) (OfBus status) = refl
refused_answer (GetOpts pipe) (OfPools status) = refl
refused_answer (GetOpts pipe) (OfEvents status) = refl
refused_answer (Find name) (OfBus status) = refl
refused_answer (Find name) (OfPools status) = refl
refused_answer (Find name) (OfEvents status) = refl
refused_answer (PipeName pipe) (OfBus status) = refl
refused_answer (PipeName pipe) (OfPools status) = refl
refused_answer (PipeName pipe) (OfEvents status) = refl
refused_answer (Subscribe id pipe limit scope) (OfBus status) = refl
refused_answer (Subscribe id pipe limit scope) (OfPools status) = refl
refused_answer (Subscribe id pipe limit scope) (OfEvents status) = refl
refused_answer (Unsubscribe id pipe) (OfBus status) = refl
refused_answer (Unsubscribe id pipe) (OfPools status) = refl
refused_answer (Unsubscribe id pipe) (OfEvents status) = refl
refused_answer (Transmit bytes inc) (OfBus status) = refl
refused_answer (Transmit bytes inc) (OfPools status) = refl
refused_answer (Transmit bytes inc) (OfEvents status) = refl
refused_answer (Receive pipe) (OfBus status) = refl
refused_answer (Receive pipe) (OfPools status) = refl
refused_answer (Receive pipe) (OfEvents status) = refl
refused_answer (Pend pipe) (OfBus status) = refl
refused_answer (Pend pipe) (OfPools status) = refl
refused_answer (Pend pipe) (OfEvents status) = refl
refused_answer (Look pipe) (OfBus status) = refl
refused_answer (Look pipe) (OfPools status) = refl
refused_answer (Look pipe) (OfEvents status) = refl
refused_answer (Allocate size) (OfBus status) = refl
refused_answer (Allocate size) (OfPools status) = refl
refused_answer (Allocate size) (OfEvents status) = refl
refused_answer (TransmitBuffer buf bytes inc) (OfBus status) = refl
refused_answer (TransmitBuffer buf bytes inc) (OfPools status) = refl
refused_answer (TransmitBuffer buf bytes inc) (OfEvents status) = refl
refused_answer (Release buf) (OfBus status) = refl
refused_answer (Release buf) (OfPools status) = refl
refused_answer (Release buf) (OfEvents status) = refl
refused_answer (PoolCreate bytes) (OfBus status) = refl
refused_answer (PoolCreate bytes) (OfPools status) = refl
refused_answer (PoolCreate bytes) (OfEvents status) = refl
refused_answer (PoolGet pool size) (OfBus status) = refl
refused_answer (PoolGet pool size) (OfPools status) = refl
refused_answer (PoolGet pool size) (OfEvents status) = refl
refused_answer (PoolPut pool grant) (OfBus status) = refl
refused_answer (PoolPut pool grant) (OfPools status) = refl
refused_answer (PoolPut pool grant) (OfEvents status) = refl
refused_answer (PoolFigures pool) (OfBus status) = refl
refused_answer (PoolFigures pool) (OfPools status) = refl
refused_answer (PoolFigures pool) (OfEvents status) = refl
refused_answer (Register filters) (OfBus status) = refl
refused_answer (Register filters) (OfPools status) = refl
refused_answer (Register filters) (OfEvents status) = refl
refused_answer (SendEvent id kind text) (OfBus status) = refl
refused_answer (SendEvent id kind text) (OfPools status) = refl
refused_answer (SendEvent id kind text) (OfEvents status) = refl
refused_answer (ResetFilter id) (OfBus status) = refl
refused_answer (ResetFilter id) (OfPools status) = refl
refused_answer (ResetFilter id) (OfEvents status) = refl
refused_answer (LogMode mode) (OfBus status) = refl
refused_answer (LogMode mode) (OfPools status) = refl
refused_answer (LogMode mode) (OfEvents status) = refl
refused_answer ClearLog (OfBus status) = refl
refused_answer ClearLog (OfPools status) = refl
refused_answer ClearLog (OfEvents status) = refl
refused_answer Housekeeping (OfBus status) = refl
refused_answer Housekeeping (OfPools status) = refl
refused_answer Housekeeping (OfEvents status) = refl
refused_answer Figures (OfBus status) = refl
refused_answer Figures (OfPools status) = refl
refused_answer Figures (OfEvents status) = refl
refused_answer End (OfBus status) = refl
refused_answer End (OfPools status) = refl
refused_answer End (OfEvents status) = refl

-- what a receive answers that may wait
pended_can : (pipe number : ℕ) (there idle : Bool) → can_answer (Pend pipe) (if there then Got number else if idle then TimeOut else Pending) ≡ true
pended_can pipe number true idle = refl
pended_can pipe number false true = refl
pended_can pipe number false false = refl

looked_can : (pipe number : ℕ) (there idle : Bool) → can_answer (Look pipe) (if there then Got number else if idle then TimeOut else Pending) ≡ true
looked_can pipe number true idle = refl
looked_can pipe number false true = refl
looked_can pipe number false false = refl

-- a step's answer, whether refused or not
decided_answer : (limits : Limits) (history : List Entry) (s : State) (app : ℕ) (call : Call) (why : Option Refusal) → can_answer call (decided limits history s app call why).0 ≡ true
decided_answer limits history s app call (Some why) = refused_answer call why
decided_answer limits history s app (Create depth name) None = refl
decided_answer limits history s app (Delete pipe) None = refl
decided_answer limits history s app (SetOpts pipe bits) None = refl
decided_answer limits history s app (GetOpts pipe) None = refl
decided_answer limits history s app (Find name) None = refl
decided_answer limits history s app (PipeName pipe) None = refl
decided_answer limits history s app (Subscribe id pipe limit scope) None = refl
decided_answer limits history s app (Unsubscribe id pipe) None = refl
decided_answer limits history s app (Transmit bytes inc) None = sent_answer limits bytes inc _ _ s
decided_answer limits history s app (Receive pipe) None = refl
decided_answer limits history s app (Pend pipe) None = pended_can pipe _ (not (is_empty s.pipes pipe)) (others_idle s app)
decided_answer limits history s app (Look pipe) None = looked_can pipe _ (not (is_empty s.pipes pipe)) (others_idle s app)
decided_answer limits history s app (Allocate size) None = refl
decided_answer limits history s app (TransmitBuffer buf bytes inc) None = passed_answer buf bytes inc _ _ _
decided_answer limits history s app (Release buf) None = refl
decided_answer limits history s app (PoolCreate bytes) None = refl
decided_answer limits history s app (PoolGet pool size) None = refl
decided_answer limits history s app (PoolPut pool grant) None = refl
decided_answer limits history s app (PoolFigures pool) None = refl
decided_answer limits history s app (Register filters) None = refl
decided_answer limits history s app (SendEvent id kind text) None = refl
decided_answer limits history s app (ResetFilter id) None = refl
decided_answer limits history s app (LogMode mode) None = refl
decided_answer limits history s app ClearLog None = refl
decided_answer limits history s app Housekeeping None = packet_answer limits _ _ s
decided_answer limits history s app Figures None = refl
decided_answer limits history s app End None = refl

pub legal_answers : (limits : Limits) (history : List Entry) (s : State) (es : List Entry) → LegalFrom limits history s es → All (λ e. IsTrue (can_answer e.call e.answer)) es
legal_answers limits history s [] legal = All-nil (λ (e : Entry). IsTrue (can_answer e.call e.answer))
legal_answers limits history s (e ∷ es) legal =
    All-cons (λ (x : Entry). IsTrue (can_answer x.call x.answer)) e es
    (ap (can_answer e.call) legal.1 ∙ decided_answer limits history s e.app e.call (cause limits s e.app e.call))
    (legal_answers limits (history ++ e ∷ []) ((step limits history s e.app e.call).1) es legal.4)
