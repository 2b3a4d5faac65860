use Rattle.std.proofs.Common.{◌≡◌, take}
use Rattle.bus_words.specs.Events.{miss_events}
use Rattle.bus_counts.specs.Records.{told_all}
use Rattle.bus_counts.proofs.records.Records.tell_misses.Given as goal

-- the misses so far are told
abbrev pub invariant-loop-miss : goal.invariant-loop-miss
invariant-loop-miss l = l.self ≡ told_all l.fn.self (miss_events l.id l.sender (take l.miss-index l.misses))
