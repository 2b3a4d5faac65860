use Rattle.std.proofs.Common.{◌≡◌, ◌++◌, take, drop}
use Rattle.tbl_words.specs.Tables.{with_handle}
use Rattle.tbl_words.specs.Machine.{with_hold}
use Rattle.list_tables.proofs.handles.take.Given as goal

-- those seen are done, the others are as they were
abbrev pub invariant-loop-handle : goal.invariant-loop-handle
invariant-loop-handle l = l.handle-items ≡ with_handle (with_hold l.version l.value.value.items) l.number (take l.handle-index l.initial.handle-items) ++ drop l.handle-index l.initial.handle-items
