use Rattle.tbl_words.specs.Machine.{after_leave}
use Rattle.list_tables.proofs.Places.{map_in_place_more}
use Rattle.list_tables.proofs.tables.unregister_left.Goals as goal

pub loop-table-preserved : goal.loop-table-preserved
loop-table-preserved c =
    map_in_place_more (after_leave c.args.left.now) _ _ _ _ _
    c.loop-table-test.true c.loop-table.auto.table-items c.loop-table.invariant c.leave_table.ensures
