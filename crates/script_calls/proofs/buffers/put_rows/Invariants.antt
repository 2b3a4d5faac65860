use Rattle.std.proofs.Common.{◌≡◌, ◌++◌, take, drop}
use Rattle.script_runs.specs.Written.{put_in}
use Rattle.script_calls.specs.Rows.{rows_changed}
use Rattle.script_calls.proofs.buffers.put_rows.Given as goal

-- those seen are done, the others are as they were
abbrev pub invariant-loop-row : goal.invariant-loop-row
invariant-loop-row l =
    l.row-items ≡ rows_changed l.number (λ old. put_in old l.offset l.bytes) (take l.row-index l.initial.row-items) ++ drop l.row-index l.initial.row-items
