use Rattle.std.proofs.Common.{◌≡◌, take}
use Rattle.bus_words.specs.Events.{miss_events}
use Rattle.list_bus.proofs.sends.miss_events.Given as goal

-- the events of the misses seen are there
abbrev pub invariant-loop-miss : goal.invariant-loop-miss
invariant-loop-miss l = l.events.items ≡ miss_events l.id l.sender (take l.miss-index l.misses)
