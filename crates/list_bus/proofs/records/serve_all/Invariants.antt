use Rattle.std.proofs.Common.{◌≡◌, drop}
use Rattle.bus_events.specs.Events.{served_all}
use Rattle.list_bus.proofs.records.serve_all.Given as goal

-- the events that are left are still to be told
abbrev pub invariant-loop-event : goal.invariant-loop-event
invariant-loop-event l = served_all l.desk (drop l.event-index l.events) ≡ served_all l.initial.desk l.events
