use Rattle.std.proofs.Common.{cond, eqb, None}
use Rattle.tbl_words.specs.Tables.{Table}
use Rattle.list_tables.proofs.Places.{map_in_place_more}
use Rattle.list_tables.proofs.tables.abort.Goals as goal

pub loop-table-preserved : goal.loop-table-preserved
loop-table-preserved c =
    map_in_place_more (λ (t : Table). cond (eqb t.number c.args.number) (record t { staged = None }) t) _ _ _ _ _
    c.loop-table-test.true c.loop-table.auto.table-items c.loop-table.invariant c.abort_if.ensures
