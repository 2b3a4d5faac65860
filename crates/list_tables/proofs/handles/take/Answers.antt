use Rattle.std.proofs.Common.{cond, eqb}
use Rattle.tbl_words.specs.Tables.{Handle}
use Rattle.tbl_words.specs.Machine.{with_hold}
use Rattle.list_tables.proofs.Places.{map_in_place_more}
use Rattle.list_tables.proofs.handles.take.Goals as goal

pub loop-handle-preserved : goal.loop-handle-preserved
loop-handle-preserved c =
    map_in_place_more (λ (h : Handle). cond (eqb h.number c.args.number) (with_hold c.args.version c.args.value.now.value.items h) h) _ _ _ _ _
    c.loop-handle-test.true c.loop-handle.auto.handle-items c.loop-handle.invariant c.in_ok-take_if.ensures
