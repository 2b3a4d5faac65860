use Rattle.std.proofs.Common.{length}
use Rattle.script_runs.specs.Messages.{sent_message}
use Rattle.script_calls.specs.Rows.{row_changed}
use Rattle.script_calls.proofs.Places.{map_in_place_more}
use Rattle.script_calls.proofs.buffers.form_rows.Goals as goal

pub loop-row-preserved : goal.loop-row-preserved
loop-row-preserved c =
    map_in_place_more (row_changed c.args.number (λ old. sent_message c.args.id (length old) c.args.fill)) _ _ _ _ _
    c.loop-row-test.true c.loop-row.auto.row-items c.loop-row.invariant c.in_ok-form_if.ensures
