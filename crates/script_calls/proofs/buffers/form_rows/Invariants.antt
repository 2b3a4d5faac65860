use Rattle.std.proofs.Common.{◌≡◌, ◌++◌, length, take, drop}
use Rattle.script_runs.specs.Messages.{sent_message}
use Rattle.script_calls.specs.Rows.{rows_changed}
use Rattle.script_calls.proofs.buffers.form_rows.Given as goal

-- those seen are done, the others are as they were
abbrev pub invariant-loop-row : goal.invariant-loop-row
invariant-loop-row l =
    l.row-items ≡ rows_changed l.number (λ old. sent_message l.id (length old) l.fill) (take l.row-index l.initial.row-items) ++ drop l.row-index l.initial.row-items
