use Rattle.std.proofs.Common.{◌≡◌, drop}
use Rattle.list_bus.specs.Decided.{all_counted}
use Rattle.list_bus.proofs.records.count_events.Given as goal

-- the events that are left are still to be counted, and the peaks stay
abbrev pub invariant-loop-event : goal.invariant-loop-event
invariant-loop-event l = record {
  counts : all_counted l.counters.counts (drop l.event-index l.events) ≡ all_counted l.initial.counters.counts l.events;
  peak : l.counters.peak ≡ l.initial.counters.peak;
}
