use Rattle.std.proofs.Common.{◌≡◌, drop}
use Rattle.tbl_words.specs.Tables.{handle_at}
use Rattle.list_tables.proofs.handles.table_number.Given as goal

-- what is left decides
abbrev pub invariant-loop-handle : goal.invariant-loop-handle
invariant-loop-handle l = handle_at (drop l.handle-index l.handles) l.number ≡ handle_at l.handles l.number
