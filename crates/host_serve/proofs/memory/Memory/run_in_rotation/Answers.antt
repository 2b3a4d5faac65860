use Rattle.std.proofs.Common.{length, map, ap, sym, ◌∙◌}
use Rattle.std.specs.List.{range_with_len}
use Rattle.script_runs.specs.Told.{receipts_told}
use Rattle.host_serve.proofs.Ends.{same-histories}
use Rattle.host_serve.proofs.memory.Memory.run_in_rotation.Goals as goal

-- the two histories are those of the rotation, as a pair
pub returns-in-Ok-clause-left : goal.returns-in-Ok-clause-left
returns-in-Ok-clause-left c =
    let run = c.in-Ok.ensures in
    same-histories _ _ _ run.history run.table_history

pub returns-in-Ok-clause-receipts : goal.returns-in-Ok-clause-receipts
returns-in-Ok-clause-receipts c =
    let script = c.args.script.now in
    let run = c.in-Ok.ensures in
    run.receipts ∙
    ap (λ h. map (receipts_told script h) (range_with_len 1 (length script.apps))) (sym (same-histories _ _ _ run.history run.table_history))
