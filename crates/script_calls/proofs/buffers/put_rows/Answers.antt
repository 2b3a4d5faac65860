use Rattle.script_runs.specs.Written.{put_in}
use Rattle.script_calls.specs.Rows.{row_changed}
use Rattle.script_calls.proofs.Places.{map_in_place_more}
use Rattle.script_calls.proofs.buffers.put_rows.Goals as goal

pub loop-row-preserved : goal.loop-row-preserved
loop-row-preserved c =
    map_in_place_more (row_changed c.args.number (λ old. put_in old c.args.offset c.args.bytes.now)) _ _ _ _ _
    c.loop-row-test.true c.loop-row.auto.row-items c.loop-row.invariant c.put_if.ensures
