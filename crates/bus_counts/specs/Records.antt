-- What a software bus tells of its calls, and counts: its event desk and its statistics, and what
-- one event, count or look does to them.
use Rattle.std.specs.Prelude.{List, fold}
use Rattle.fsw_base.specs.EventDesk.{Desk, new_desk}
use Rattle.housekeeping.specs.declared.in_use.InUse.{InUse}
use Rattle.housekeeping.specs.declared.names.CounterName.{CounterName}
use Rattle.housekeeping.specs.Counters.{ticked}
use Rattle.housekeeping.specs.Peaks.{greater}
use Rattle.housekeeping.specs.Statistics.{Statistics, no_statistics}
use Rattle.bus_events.specs.declared.event.ServiceEvent.{ServiceEvent}
use Rattle.bus_events.specs.Events.{served_event}
use Rattle.bus_words.specs.Counters.{event_counter}

-- The event desk; and the counters, with the peaks of what was in use.
pub record Recordings : Type 0 where
  pub events : Desk
  pub statistics : Statistics

-- nothing was logged, counted or seen yet
abbrev pub no_recordings : Recordings
no_recordings = record { events = new_desk; statistics = no_statistics }

-- one more on the counter of a name
abbrev pub counter_ticked : Recordings → CounterName → Recordings
counter_ticked records name =
    record records {
      statistics = record records.statistics
          { counts = ticked records.statistics.counts name };
    }

-- each peak rises to what is in use, if that is more
abbrev pub peaks_raised : Recordings → InUse → Recordings
peaks_raised records now =
    record records
    { statistics = record records.statistics { peak = greater records.statistics.peak now } }

-- an event of the bus: the desk is served it, and the counter that it raises goes up, if it raises
-- one
abbrev pub told_event : Recordings → ServiceEvent → Recordings
told_event records event = record {
  events = served_event records.events event;
  statistics =
      record records.statistics
      { counts = fold ticked records.statistics.counts (event_counter event) };
}

-- these events, in order
abbrev pub told_all : Recordings → List ServiceEvent → Recordings
told_all records events = fold told_event records events
