use Rattle.std.proofs.Common.{◌≡◌, ◌++◌, take, drop}
use Rattle.fsw_base.specs.EventFilters.{all_after_event}
use Rattle.evs_events.proofs.filters.count_events.Given as goal

-- the filters seen are done, the others are as they were
abbrev pub invariant-loop-filter : goal.invariant-loop-filter
invariant-loop-filter l = l.filter-items ≡ all_after_event (take l.filter-index l.initial.filter-items) l.id ++ drop l.filter-index l.initial.filter-items
