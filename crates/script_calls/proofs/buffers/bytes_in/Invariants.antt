use Rattle.std.proofs.Common.{◌≡◌, drop}
use Rattle.script_calls.specs.Rows.{written_in}
use Rattle.script_calls.proofs.buffers.bytes_in.Given as goal

-- what is left decides
abbrev pub invariant-loop-row : goal.invariant-loop-row
invariant-loop-row l = written_in (drop l.row-index l.rows) l.number ≡ written_in l.rows l.number
