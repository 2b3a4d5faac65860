use Rattle.fsw_base.specs.EventFilters.{after_event}
use Rattle.evs_events.proofs.MapInPlace.{map_in_place_more}
use Rattle.evs_events.proofs.filters.count_events.Goals as goal

pub loop-filter-preserved : goal.loop-filter-preserved
loop-filter-preserved c =
    map_in_place_more (after_event c.args.id) _ _ _ _ _ c.loop-filter-test.true c.loop-filter.auto.filter-items c.loop-filter.invariant c.count_event.ensures
