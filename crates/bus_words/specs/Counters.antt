-- What the bus counts of its calls, and its statistics after each (cFE Software Bus, housekeeping
-- and statistics telemetry).
use Rattle.std.specs.Prelude.{List, [], ◌∷◌, ◌++◌, map, fold, flat_map}
use Rattle.fsw_base.specs.Limits.{Limits}
use Rattle.fsw_base.specs.declared.config.BusStats.{BusStats}
use Rattle.fsw_base.specs.declared.statuses.SbStatus.TheVariants.{BadArgument}
use Rattle.housekeeping.specs.declared.names.CounterName.{CounterName}
use Rattle.housekeeping.specs.declared.names.CounterName.TheVariants as counters
use Rattle.housekeeping.specs.declared.in_use.InUse.{InUse}
use Rattle.housekeeping.specs.Counters.{ticked}
use Rattle.housekeeping.specs.Peaks.{greater}
use Rattle.housekeeping.specs.Statistics.{Statistics, statistics_of}
use Rattle.bus_events.specs.declared.event.ServiceEvent.{ServiceEvent}
use Rattle.bus_events.specs.declared.event.ServiceEvent.TheVariants.{DuplicateSubscription, NotSubscribed, NoSubscribers, MessageLimit, PipeOverflow, OldestDropped}
use Rattle.bus_words.specs.declared.calls.BusAnswer.{BusAnswer}
use Rattle.bus_words.specs.declared.calls.BusAnswer.TheVariants.{Sb}
use Rattle.bus_words.specs.declared.history.Call.{Call}
use Rattle.bus_words.specs.declared.history.Call.TheVariants.{Create, Delete, SetOpts, GetOpts, Find, PipeName, Subscribe, Unsubscribe, Transmit, Receive, Pend, Allocate, TransmitBuffer, Release, Housekeeping}
use Rattle.bus_words.specs.Bus.{State}
use Rattle.bus_words.specs.Held.{in_use}
use Rattle.bus_words.specs.Events.{Moment, service_events}

-- Counters. --

-- the counter that a service event raises; that a pair wasn't subscribed raises none
abbrev pub event_counter : ServiceEvent → List CounterName
event_counter (DuplicateSubscription id pipe) = counters.Dup ∷ []
event_counter (NotSubscribed id pipe) = []
event_counter (NoSubscribers id) = counters.Nosub ∷ []
event_counter (MessageLimit id pipe sender) = counters.Limit ∷ []
event_counter (PipeOverflow id pipe sender) = counters.Overflow ∷ []
event_counter (OldestDropped id pipe sender) = counters.Oldest ∷ []

-- the counter that a refused call raises; a receive that found no message raises none
abbrev pub refusal_counter : Call → BusAnswer → List CounterName
refusal_counter (Create depth name) (Sb status) = counters.Create ∷ []
refusal_counter (Delete pipe) (Sb status) = counters.Create ∷ []
refusal_counter (SetOpts pipe bits) (Sb status) = counters.Opts ∷ []
refusal_counter (GetOpts pipe) (Sb status) = counters.Opts ∷ []
refusal_counter (Find name) (Sb status) = counters.Find ∷ []
refusal_counter (PipeName pipe) (Sb status) = counters.Find ∷ []
refusal_counter (Subscribe id pipe limit scope) (Sb status) = counters.Sub ∷ []
refusal_counter (Unsubscribe id pipe) (Sb status) = counters.Sub ∷ []
refusal_counter (Transmit bytes inc) (Sb status) = counters.Send ∷ []
refusal_counter (Allocate size) (Sb status) = counters.Send ∷ []
refusal_counter (TransmitBuffer buf bytes inc) (Sb status) = counters.Send ∷ []
refusal_counter (Release buf) (Sb status) = counters.Send ∷ []
refusal_counter Housekeeping (Sb status) = counters.Send ∷ []
refusal_counter (Receive pipe) (Sb BadArgument) = counters.Recv ∷ []
refusal_counter (Pend pipe) (Sb BadArgument) = counters.Recv ∷ []
refusal_counter call answer = []

-- the counters that a call so answered raises of which the bus tells this, one for each time: its
-- refusal's, and the events'
abbrev pub counters_of : Call → BusAnswer → List ServiceEvent → List CounterName
counters_of call answer events = refusal_counter call answer ++ flat_map event_counter events

-- the counters that an entry raises
abbrev pub counters_raised : Moment → List CounterName
counters_raised m = counters_of m.entry.call m.entry.answer (service_events m)

-- Statistics. --

-- these statistics after a call so answered, of which the bus tells this, if so much is in use
-- afterwards: its counters go up, and the peaks rise to what is in use
unfoldable pub statistics_by : Statistics → Call → BusAnswer → List ServiceEvent → InUse →
    Statistics
statistics_by statistics call answer events now = record {
  counts = fold ticked statistics.counts (counters_of call answer events);
  peak = greater statistics.peak now;
}

-- these statistics after an entry
abbrev pub statistics_then : Limits → Statistics → Moment → Statistics
statistics_then limits statistics m =
    statistics_by statistics m.entry.call m.entry.answer (service_events m)
    (in_use limits m.after)

-- the statistics of these moments: how often each counter was raised, and of each number in use the
-- greatest that stood after one of them
abbrev pub statistics_told : Limits → List Moment → Statistics
statistics_told limits moments =
    statistics_of (flat_map counters_raised moments)
    (map (λ m. in_use limits m.after) moments)

-- the figures of the bus: the counters of messages that went nowhere, over their limit or to a full
-- pipe, and the buffers in use
abbrev pub stats_in : Limits → State → BusStats
stats_in limits s = record {
  nosub = s.statistics.counts.nosub;
  limit = s.statistics.counts.limit;
  overflow = s.statistics.counts.overflow;
  buffers = (in_use limits s).buffers;
  bytes = (in_use limits s).bytes;
}
