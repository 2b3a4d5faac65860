use Rattle.std.proofs.Common.{cond, eqb}
use Rattle.tbl_words.specs.Tables.{Table}
use Rattle.tbl_words.specs.Machine.{with_value}
use Rattle.list_tables.proofs.Places.{map_in_place_more}
use Rattle.list_tables.proofs.tables.set_value.Goals as goal

pub loop-table-preserved : goal.loop-table-preserved
loop-table-preserved c =
    map_in_place_more (λ (t : Table). cond (eqb t.number c.args.number) (with_value c.args.value.now.value.items t) t) _ _ _ _ _
    c.loop-table-test.true c.loop-table.auto.table-items c.loop-table.invariant c.in_ok-set_value_if.ensures
