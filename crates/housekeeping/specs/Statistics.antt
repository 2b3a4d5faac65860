-- What a software bus tells of itself: its counters and its peaks.
use Rattle.std.specs.Prelude.{List}
use Rattle.housekeeping.specs.declared.in_use.InUse.{InUse}
use Rattle.housekeeping.specs.declared.names.CounterName.{CounterName}
use Rattle.housekeeping.specs.Counters.{Counts, no_counts, counts_of}
use Rattle.housekeeping.specs.Peaks.{nothing_in_use, peak_of}

pub record Statistics : Type 0 where
  pub counts : Counts
  -- of each number in use the greatest that was seen
  pub peak : InUse

-- the statistics before anything was counted or seen
abbrev pub no_statistics : Statistics
no_statistics = record { counts = no_counts; peak = nothing_in_use }

-- the statistics of a bus at which these events were counted and these numbers were seen in use,
-- both in order
abbrev pub statistics_of : List CounterName → List InUse → Statistics
statistics_of events uses = record { counts = counts_of events; peak = peak_of uses }
