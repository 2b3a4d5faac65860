-- What the event desk counts as refused are the entries whose event or reset was refused.
use Rattle.std.proofs.Common.{◌≡◌, ℕ, ◌+◌, ◌-◌, ◌^◌, min, Bool, true, false, cond, List, [], ◌∷◌, ◌++◌, Option, Some, None, refl, ap, sym, ◌∙◌, zero-add, true≢false, arith}
use Rattle.std.specs.Prelude.{count_by, is_some}
use Rattle.fsw_base.specs.Limits.{Limits}
use Rattle.fsw_base.specs.declared.events.EventKind.{EventKind}
use Rattle.fsw_base.specs.declared.statuses.EvsStatus.{EvsStatus}
use Rattle.fsw_base.specs.declared.statuses.EvsStatus.TheVariants.{EvtNotRegistered}
use Rattle.fsw_base.specs.EventFilters.{EventFilter, passes, has_filter, restarted}
use Rattle.fsw_base.specs.EventDesk.{Desk, counted, counted_if, filters_of, with_filters, passed, tested, refused_once, sent, send_refusal, reset, reset_refusal}
use Rattle.bus_events.specs.declared.event.ServiceEvent.{ServiceEvent}
use Rattle.bus_events.specs.Events.{served_event, served_all}
use Rattle.bus_words.specs.declared.calls.BusAnswer.{BusAnswer}
use Rattle.bus_words.specs.declared.history.Call.{Call}
use Rattle.bus_words.specs.declared.history.Call.TheVariants.{Create, Delete, SetOpts, GetOpts, Find, PipeName, Subscribe, Unsubscribe, Transmit, Receive, Pend, Look, Allocate, TransmitBuffer, Release, PoolCreate, PoolGet, PoolPut, PoolFigures, Register, SendEvent, ResetFilter, LogMode, ClearLog, Housekeeping, Figures, End}
use Rattle.bus_words.specs.declared.history.Entry.{Entry}
use Rattle.bus_words.specs.Bus.{State, opening}
use Rattle.bus_words.specs.Events.{call_events, desk_by}
use Rattle.bus_words.specs.Machine.{LegalFrom, IsLegal, by_events, cause, decided, state_after, state_from, step}
use Rattle.bus_words.specs.Readings.{is_refused_event, count_of}
use Rattle.bus_words.proofs.Readings.{count-more}

-- The desk. --

-- events that are told refuse nothing
told-refused : (desk : Desk) (events : List ServiceEvent) → (served_all desk events).refused ≡ desk.refused
unfolding passed
told-refused desk [] = refl
told-refused desk (event ∷ events) = told-refused (served_event desk event) events

-- either of two desks has so many refusals
either_has : (n : ℕ) (b : Bool) (one other : Desk) → one.refused ≡ n → other.refused ≡ n → (cond {A = Desk} b one other).refused ≡ n
either_has n true one other here there = here
either_has n false one other here there = there

event-by : (desk : Desk) (app id : ℕ) (kind : EventKind) (text : List ℕ) (o : Option (List EventFilter)) → filters_of desk app ≡ o →
    (sent desk app id kind text).refused ≡ counted_if (is_some (send_refusal desk app)) desk.refused
unfolding sent passed
event-by desk app id kind text None is = rw is refl
event-by desk app id kind text (Some filters) is =
    rw is
    (either_has desk.refused (passes filters id) (passed (tested desk app filters id) app id kind text)
    (record (tested desk app filters id) { filtered = counted desk.filtered }) refl refl)

-- an event is counted as refused if it has a refusal
event-refused : (desk : Desk) (app id : ℕ) (kind : EventKind) (text : List ℕ) →
    (sent desk app id kind text).refused ≡ counted_if (is_some (send_refusal desk app)) desk.refused
event-refused desk app id kind text = event-by desk app id kind text (filters_of desk app) refl

reset-either : (desk : Desk) (app id : ℕ) (filters : List EventFilter) (b : Bool) →
    (cond {A = Desk} b (with_filters desk app (Some (restarted filters id))) (refused_once desk)).refused
    ≡ counted_if (is_some (cond {A = Option EvsStatus} b None (Some EvtNotRegistered))) desk.refused
reset-either desk app id filters true = refl
reset-either desk app id filters false = refl

reset-by : (desk : Desk) (app id : ℕ) (o : Option (List EventFilter)) → filters_of desk app ≡ o →
    (reset desk app id).refused ≡ counted_if (is_some (reset_refusal desk app id)) desk.refused
unfolding reset
reset-by desk app id None is = rw is refl
reset-by desk app id (Some filters) is = rw is (reset-either desk app id filters (has_filter filters id))

-- so is a reset
reset-refused : (desk : Desk) (app id : ℕ) → (reset desk app id).refused ≡ counted_if (is_some (reset_refusal desk app id)) desk.refused
reset-refused desk app id = reset-by desk app id (filters_of desk app) refl

-- Calls. --

-- whether a call sends an event or resets a filter
abbrev may_be_refused : Call → Bool
may_be_refused (SendEvent id kind text) = true
may_be_refused (ResetFilter id) = true
may_be_refused call = false

-- every other call leaves the count
others-refused : (desk : Desk) (app : ℕ) (call : Call) (events : List ServiceEvent) (answer : BusAnswer) → may_be_refused call ≡ false →
    (desk_by desk app call events).refused ≡ counted_if (is_refused_event call answer) desk.refused
unfolding desk_by
others-refused desk app (Create depth name) events answer other = told-refused desk events
others-refused desk app (Delete pipe) events answer other = told-refused desk events
others-refused desk app (SetOpts pipe bits) events answer other = told-refused desk events
others-refused desk app (GetOpts pipe) events answer other = told-refused desk events
others-refused desk app (Find name) events answer other = told-refused desk events
others-refused desk app (PipeName pipe) events answer other = told-refused desk events
others-refused desk app (Subscribe id pipe limit scope) events answer other = told-refused desk events
others-refused desk app (Unsubscribe id pipe) events answer other = told-refused desk events
others-refused desk app (Transmit bytes inc) events answer other = told-refused desk events
others-refused desk app (Receive pipe) events answer other = told-refused desk events
others-refused desk app (Pend pipe) events answer other = told-refused desk events
others-refused desk app (Look pipe) events answer other = told-refused desk events
others-refused desk app (Allocate size) events answer other = told-refused desk events
others-refused desk app (TransmitBuffer buf bytes inc) events answer other = told-refused desk events
others-refused desk app (Release buf) events answer other = told-refused desk events
others-refused desk app (PoolCreate bytes) events answer other = told-refused desk events
others-refused desk app (PoolGet pool size) events answer other = told-refused desk events
others-refused desk app (PoolPut pool grant) events answer other = told-refused desk events
others-refused desk app (PoolFigures pool) events answer other = told-refused desk events
others-refused desk app (Register filters) events answer other = refl
others-refused desk app (SendEvent id kind text) events answer other = absurd (true≢false other)
others-refused desk app (ResetFilter id) events answer other = absurd (true≢false other)
others-refused desk app (LogMode mode) events answer other = refl
others-refused desk app ClearLog events answer other = refl
others-refused desk app Housekeeping events answer other = told-refused desk events
others-refused desk app Figures events answer other = told-refused desk events
others-refused desk app End events answer other = refl

-- a call changes the count by its answer
abbrev Counts : Limits → List Entry → State → ℕ → Call → Type 0
Counts limits history s app call =
    ((step limits history s app call).1).events.refused ≡ counted_if (is_refused_event call (step limits history s app call).0) s.events.refused

event-answered : (limits : Limits) (history : List Entry) (s : State) (app id : ℕ) (kind : EventKind) (text : List ℕ) (o : Option EvsStatus) →
    is_some o ≡ is_refused_event (SendEvent id kind text) ((decided limits history s app (SendEvent id kind text) (by_events o)).0)
event-answered limits history s app id kind text None = refl
event-answered limits history s app id kind text (Some status) = refl

reset-answered : (limits : Limits) (history : List Entry) (s : State) (app id : ℕ) (o : Option EvsStatus) →
    is_some o ≡ is_refused_event (ResetFilter id) ((decided limits history s app (ResetFilter id) (by_events o)).0)
reset-answered limits history s app id None = refl
reset-answered limits history s app id (Some status) = refl

refusable : (limits : Limits) (history : List Entry) (s : State) (app : ℕ) (call : Call) → may_be_refused call ≡ true → Counts limits history s app call
unfolding desk_by
refusable limits history s app (SendEvent id kind text) is =
    event-refused s.events app id kind text
    ∙ ap (λ b. counted_if b s.events.refused) (event-answered limits history s app id kind text (send_refusal s.events app))
refusable limits history s app (ResetFilter id) is =
    reset-refused s.events app id ∙ ap (λ b. counted_if b s.events.refused) (reset-answered limits history s app id (reset_refusal s.events app id))
refusable limits history s app call is = absurd (true≢false (sym is))

step-refused : (limits : Limits) (history : List Entry) (s : State) (app : ℕ) (call : Call) → Counts limits history s app call
step-refused limits history s app call = by_call (may_be_refused call) refl
  where
    by_call : (b : Bool) → may_be_refused call ≡ b → Counts limits history s app call
    by_call true is = refusable limits history s app call is
    by_call false is =
        let made = decided limits history s app call (cause limits s app call) in
        others-refused s.events app call (call_events s app call made.0) made.0 is

-- Histories. --

-- a count that was so many, at most the largest, and one more if the test holds
raised-more : (b : Bool) (n : ℕ) → counted_if b (min n (2 ^ 32 - 1)) ≡ min (n + cond {A = ℕ} b 1 0) (2 ^ 32 - 1)
raised-more true n = omega arith
raised-more false n = omega arith

refused-from : (limits : Limits) (history : List Entry) (s : State) (es : List Entry) (n : ℕ) → LegalFrom limits history s es → s.events.refused ≡ min n (2 ^ 32 - 1) →
    (state_from limits history s es).events.refused ≡ min (n + count_by (λ e. is_refused_event e.call e.answer) es) (2 ^ 32 - 1)
refused-from limits history s [] n legal counts = counts ∙ ap (λ k. min k (2 ^ 32 - 1)) (omega arith)
refused-from limits history s (e ∷ es) n legal counts =
    let next = (step limits history s e.app e.call).1 in
    let refused = is_refused_event e.call e.answer in
    refused-from limits (history ++ e ∷ []) next es (n + cond {A = ℕ} refused 1 0) legal.4
    (step-refused limits history s e.app e.call
    ∙ ap (λ a. counted_if (is_refused_event e.call a) s.events.refused) (sym legal.1)
    ∙ ap (counted_if refused) counts
    ∙ raised-more refused n)
    ∙ ap (λ k. min k (2 ^ 32 - 1)) (omega (arith, count-more (λ x. is_refused_event x.call x.answer) e es))

-- after every legal history
pub refusals_are_read : (limits : Limits) (apps : ℕ) (history : List Entry) → IsLegal limits apps history →
    (state_after limits apps history).events.refused ≡ count_of is_refused_event history
refusals_are_read limits apps history legal =
    refused-from limits [] (opening limits apps) history 0 legal refl
    ∙ ap (λ n. min n (2 ^ 32 - 1)) (zero-add (count_by (λ e. is_refused_event e.call e.answer) history))
