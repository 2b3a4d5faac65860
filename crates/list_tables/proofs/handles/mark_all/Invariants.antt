use Rattle.std.proofs.Common.{◌≡◌, ◌++◌, take, drop}
use Rattle.tbl_words.specs.Tables.{all_marked}
use Rattle.list_tables.proofs.handles.mark_all.Given as goal

-- those seen are done, the others are as they were
abbrev pub invariant-loop-handle : goal.invariant-loop-handle
invariant-loop-handle l = l.handle-items ≡ all_marked l.table (take l.handle-index l.initial.handle-items) ++ drop l.handle-index l.initial.handle-items
