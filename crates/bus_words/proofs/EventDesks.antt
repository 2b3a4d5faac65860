-- The event desk of a bus is the one that its history tells, and the calls of which the bus tells nothing.
use Rattle.std.proofs.Common.{◌≡◌, ℕ, Bool, true, false, List, [], ◌∷◌, ◌++◌, IsTrue, refl, ap, ◌∙◌, true≢false, sym}
use Rattle.std.specs.Prelude.{fold}
use Rattle.fsw_base.specs.EventDesk.{Desk}
use Rattle.fsw_base.specs.Limits.{Limits}
use Rattle.bus_words.specs.declared.calls.BusAnswer.{BusAnswer}
use Rattle.bus_words.specs.declared.history.Call.{Call}
use Rattle.bus_words.specs.declared.history.Call.TheVariants.{Create, Delete, SetOpts, GetOpts, Find, PipeName, Subscribe, Unsubscribe, Transmit, Receive, Pend, Look, Allocate, TransmitBuffer, Release, PoolCreate, PoolGet, PoolPut, PoolFigures, Register, SendEvent, ResetFilter, LogMode, ClearLog, Housekeeping, Figures, End}
use Rattle.bus_words.specs.declared.history.Entry.{Entry}
use Rattle.bus_words.specs.Bus.{State, opening}
use Rattle.bus_words.specs.Held.{in_use}
use Rattle.bus_words.specs.Events.{call_events, desk_by, desk_then}
use Rattle.bus_words.specs.Counters.{statistics_by}
use Rattle.bus_words.specs.Machine.{recorded, step, state_from, state_after, LegalFrom, IsLegal, moments_from, desk_after}

-- The history's desk. --

desk_from : (limits : Limits) (history : List Entry) (s : State) (es : List Entry) → LegalFrom limits history s es →
    (state_from limits history s es).events ≡ fold desk_then s.events (moments_from limits history s es)
desk_from limits history s [] legal = refl
desk_from limits history s (e ∷ es) legal =
    let next = (step limits history s e.app e.call).1 in
    desk_from limits (history ++ e ∷ []) next es legal.4
    ∙ ap (λ (a : BusAnswer). fold desk_then (desk_by s.events e.app e.call (call_events s e.app e.call a)) (moments_from limits (history ++ e ∷ []) next es))
    (sym legal.1)

-- after every legal history
pub desk_after-legal : (limits : Limits) (apps : ℕ) (history : List Entry) → IsLegal limits apps history →
    (state_after limits apps history).events ≡ desk_after limits apps history
desk_after-legal limits apps history legal = desk_from limits [] (opening limits apps) history legal

-- Quiet calls. --

-- whether a call is one of which the bus never tells
abbrev pub is_quiet : Call → Bool
is_quiet (Create depth name) = true
is_quiet (Delete pipe) = true
is_quiet (SetOpts pipe bits) = true
is_quiet (GetOpts pipe) = true
is_quiet (Find name) = true
is_quiet (PipeName pipe) = true
is_quiet (Subscribe id pipe limit scope) = false
is_quiet (Unsubscribe id pipe) = false
is_quiet (Transmit bytes inc) = false
is_quiet (Receive pipe) = true
is_quiet (Pend pipe) = true
is_quiet (Look pipe) = true
is_quiet (Allocate size) = true
is_quiet (TransmitBuffer buf bytes inc) = false
is_quiet (Release buf) = true
is_quiet (PoolCreate bytes) = true
is_quiet (PoolGet pool size) = true
is_quiet (PoolPut pool grant) = true
is_quiet (PoolFigures pool) = true
is_quiet (Register filters) = true
is_quiet (SendEvent id kind text) = true
is_quiet (ResetFilter id) = true
is_quiet (LogMode mode) = true
is_quiet ClearLog = true
is_quiet Housekeeping = false
is_quiet Figures = true
is_quiet End = true

-- of these it tells nothing
pub quiet_events : (s : State) (app : ℕ) (call : Call) (answer : BusAnswer) → IsTrue (is_quiet call) → call_events s app call answer ≡ []
unfolding call_events
quiet_events s app (Create depth name) answer quiet = refl
quiet_events s app (Delete pipe) answer quiet = refl
quiet_events s app (SetOpts pipe bits) answer quiet = refl
quiet_events s app (GetOpts pipe) answer quiet = refl
quiet_events s app (Find name) answer quiet = refl
quiet_events s app (PipeName pipe) answer quiet = refl
quiet_events s app (Subscribe id pipe limit scope) answer quiet = absurd (true≢false (sym quiet))
quiet_events s app (Unsubscribe id pipe) answer quiet = absurd (true≢false (sym quiet))
quiet_events s app (Transmit bytes inc) answer quiet = absurd (true≢false (sym quiet))
quiet_events s app (Receive pipe) answer quiet = refl
quiet_events s app (Pend pipe) answer quiet = refl
quiet_events s app (Look pipe) answer quiet = refl
quiet_events s app (Allocate size) answer quiet = refl
quiet_events s app (TransmitBuffer buf bytes inc) answer quiet = absurd (true≢false (sym quiet))
quiet_events s app (Release buf) answer quiet = refl
quiet_events s app (PoolCreate bytes) answer quiet = refl
quiet_events s app (PoolGet pool size) answer quiet = refl
quiet_events s app (PoolPut pool grant) answer quiet = refl
quiet_events s app (PoolFigures pool) answer quiet = refl
quiet_events s app (Register filters) answer quiet = refl
quiet_events s app (SendEvent id kind text) answer quiet = refl
quiet_events s app (ResetFilter id) answer quiet = refl
quiet_events s app (LogMode mode) answer quiet = refl
quiet_events s app ClearLog answer quiet = refl
quiet_events s app Housekeeping answer quiet = absurd (true≢false (sym quiet))
quiet_events s app Figures answer quiet = refl
quiet_events s app End answer quiet = refl

-- whether a call is neither one of the event services nor an end
abbrev pub leaves_desk : Call → Bool
leaves_desk (Create depth name) = true
leaves_desk (Delete pipe) = true
leaves_desk (SetOpts pipe bits) = true
leaves_desk (GetOpts pipe) = true
leaves_desk (Find name) = true
leaves_desk (PipeName pipe) = true
leaves_desk (Subscribe id pipe limit scope) = true
leaves_desk (Unsubscribe id pipe) = true
leaves_desk (Transmit bytes inc) = true
leaves_desk (Receive pipe) = true
leaves_desk (Pend pipe) = true
leaves_desk (Look pipe) = true
leaves_desk (Allocate size) = true
leaves_desk (TransmitBuffer buf bytes inc) = true
leaves_desk (Release buf) = true
leaves_desk (PoolCreate bytes) = true
leaves_desk (PoolGet pool size) = true
leaves_desk (PoolPut pool grant) = true
leaves_desk (PoolFigures pool) = true
leaves_desk (Register filters) = false
leaves_desk (SendEvent id kind text) = false
leaves_desk (ResetFilter id) = false
leaves_desk (LogMode mode) = false
leaves_desk ClearLog = false
leaves_desk Housekeeping = true
leaves_desk Figures = true
leaves_desk End = false

-- such a call leaves the desk as it is, if the bus tells nothing of it
pub quiet_desk : (desk : Desk) (app : ℕ) (call : Call) → IsTrue (leaves_desk call) → desk_by desk app call [] ≡ desk
unfolding desk_by
quiet_desk desk app (Create depth name) leaves = refl
quiet_desk desk app (Delete pipe) leaves = refl
quiet_desk desk app (SetOpts pipe bits) leaves = refl
quiet_desk desk app (GetOpts pipe) leaves = refl
quiet_desk desk app (Find name) leaves = refl
quiet_desk desk app (PipeName pipe) leaves = refl
quiet_desk desk app (Subscribe id pipe limit scope) leaves = refl
quiet_desk desk app (Unsubscribe id pipe) leaves = refl
quiet_desk desk app (Transmit bytes inc) leaves = refl
quiet_desk desk app (Receive pipe) leaves = refl
quiet_desk desk app (Pend pipe) leaves = refl
quiet_desk desk app (Look pipe) leaves = refl
quiet_desk desk app (Allocate size) leaves = refl
quiet_desk desk app (TransmitBuffer buf bytes inc) leaves = refl
quiet_desk desk app (Release buf) leaves = refl
quiet_desk desk app (PoolCreate bytes) leaves = refl
quiet_desk desk app (PoolGet pool size) leaves = refl
quiet_desk desk app (PoolPut pool grant) leaves = refl
quiet_desk desk app (PoolFigures pool) leaves = refl
quiet_desk desk app (Register filters) leaves = absurd (true≢false (sym leaves))
quiet_desk desk app (SendEvent id kind text) leaves = absurd (true≢false (sym leaves))
quiet_desk desk app (ResetFilter id) leaves = absurd (true≢false (sym leaves))
quiet_desk desk app (LogMode mode) leaves = absurd (true≢false (sym leaves))
quiet_desk desk app ClearLog leaves = absurd (true≢false (sym leaves))
quiet_desk desk app Housekeeping leaves = refl
quiet_desk desk app Figures leaves = refl
quiet_desk desk app End leaves = absurd (true≢false (sym leaves))

-- what a call leaves of which the bus never tells and that leaves the desk: its refusal's counter, and the peaks
pub recorded_quiet : (limits : Limits) (s : State) (app : ℕ) (call : Call) (made : BusAnswer × State) → IsTrue (is_quiet call) → IsTrue (leaves_desk call) →
    recorded limits s app call made ≡ (made.0, record made.1 { events = s.events; statistics = statistics_by s.statistics call made.0 [] (in_use limits made.1) })
recorded_quiet limits s app call made quiet leaves =
    ap (λ events. (made.0, record made.1 { events = desk_by s.events app call events; statistics = statistics_by s.statistics call made.0 events (in_use limits made.1) }))
    (quiet_events s app call made.0 quiet)
    ∙ ap (λ desk. (made.0, record made.1 { events = desk; statistics = statistics_by s.statistics call made.0 [] (in_use limits made.1) })) (quiet_desk s.events app call leaves)
