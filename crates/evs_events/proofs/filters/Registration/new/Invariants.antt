use Rattle.std.proofs.Common.{◌≡◌, length, take}
use Rattle.fsw_base.specs.EventFilters.{fresh_filters}
use Rattle.evs_events.proofs.filters.Registration.new.Given as goal

-- a filter for each pair so far
abbrev pub invariant-loop-i : goal.invariant-loop-i
invariant-loop-i l = (l.filters.items ≡ fresh_filters (take l.i l.pairs)) × (length l.filters.items ≡ l.i)
