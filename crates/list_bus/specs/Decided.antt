-- What a call is answered and changes, and its events.
use Rattle.std.specs.Prelude.{◌≡◌, ℕ, Bool, true, false, List, Result, Ok, Err, fold}
use Rattle.fsw_base.specs.EventDesk.{Desk}
use Rattle.fsw_base.specs.declared.config.PoolStats.{PoolStats}
use Rattle.fsw_base.specs.declared.statuses.EsStatus.{EsStatus}
use Rattle.housekeeping.specs.Counters.{Counts, ticked}
use Rattle.housekeeping.specs.Statistics.{Statistics}
use Rattle.bus_events.specs.declared.event.ServiceEvent.{ServiceEvent}
use Rattle.bus_words.specs.declared.calls.BusAnswer.{BusAnswer}
use Rattle.bus_words.specs.declared.calls.BusAnswer.TheVariants.{Done, Number, Pool, Es}
use Rattle.bus_words.specs.declared.history.Call.{Call}
use Rattle.bus_words.specs.declared.history.Call.TheVariants.{Subscribe, Unsubscribe, Transmit, TransmitBuffer, PoolCreate, PoolGet, PoolPut, PoolFigures, Register, SendEvent, ResetFilter, LogMode, ClearLog, Housekeeping}
use Rattle.bus_words.specs.Events.{call_events}
use Rattle.bus_words.specs.Counters.{event_counter}
use Rattle.bus_words.specs.Machine.{cause, decided_with}
use Rattle.bus_words.specs.Acts.{Whole, reads_in, completed}
use Rattle.list_bus.specs.Played.{Played, IsPlayed}

-- what an application's call is answered, and all of the state after it, but for the event desk and
-- the statistics
abbrev pub decided : Played → ℕ → Call → BusAnswer × Whole
decided p app call =
    completed p.limits p.whole call
    (decided_with (reads_in p.whole) p.limits p.whole.bus app call
    (cause p.limits p.whole.bus app call))

-- the call was answered, and left the state, as it is decided; the limits, the event desk and the
-- statistics are as they were, and send numbers are named as pipes and unsent buffers name them
pub record Decides (old new : Played) (app : ℕ) (call : Call) (answer : BusAnswer) : Type 0 where
  pub made : decided old app call ≡ (answer, new.whole)
  pub limits : new.limits ≡ old.limits
  pub events : new.whole.bus.events ≡ old.whole.bus.events
  pub statistics : new.whole.bus.statistics ≡ old.whole.bus.statistics
  pub kept : IsPlayed new

-- these are the events of the call
abbrev pub HasEvents : Played → ℕ → Call → BusAnswer → List ServiceEvent → Type 0
HasEvents old app call answer events =
    events ≡ call_events old.whole.bus app call answer

-- whether such a call never has an event
abbrev pub is_silent : Call → Bool
is_silent (Subscribe id pipe limit scope) = false
is_silent (Unsubscribe id pipe) = false
is_silent (Transmit bytes inc) = false
is_silent (TransmitBuffer buf bytes inc) = false
is_silent Housekeeping = false
is_silent call = true

-- whether it is a call of the event services
abbrev pub is_of_events : Call → Bool
is_of_events (Register filters) = true
is_of_events (SendEvent id kind text) = true
is_of_events (ResetFilter id) = true
is_of_events (LogMode mode) = true
is_of_events ClearLog = true
is_of_events call = false

-- whether it is a call of the memory pools or of the event services
abbrev pub is_of_services : Call → Bool
is_of_services (PoolCreate bytes) = true
is_of_services (PoolGet pool size) = true
is_of_services (PoolPut pool grant) = true
is_of_services (PoolFigures pool) = true
is_of_services call = is_of_events call

-- these counts once the counters of these events went up, event by event
abbrev pub all_counted : Counts → List ServiceEvent → Counts
all_counted counts events = fold (λ now event. fold ticked now (event_counter event)) counts events

-- the bus with this event desk
abbrev pub with_desk : Played → Desk → Played
with_desk p desk =
    record p { whole = record p.whole { bus = record p.whole.bus { events = desk } } }

-- the bus with these statistics
abbrev pub with_statistics : Played → Statistics → Played
with_statistics p statistics =
    record p { whole = record p.whole { bus = record p.whole.bus { statistics = statistics } } }

-- the answer of a call that a memory pool answers with a number, or refuses
abbrev pub numbered : Result ℕ EsStatus → BusAnswer
numbered (Ok number) = Number number
numbered (Err why) = Es why

-- the answer of a return to a memory pool, done or refused
abbrev pub returned : Result Unit EsStatus → BusAnswer
returned (Ok nothing) = Done
returned (Err why) = Es why

-- the answer of a call for a memory pool's figures, or its refusal
abbrev pub figured : Result PoolStats EsStatus → BusAnswer
figured (Ok figures) = Pool figures
figured (Err why) = Es why
