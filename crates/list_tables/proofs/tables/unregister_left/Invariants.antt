use Rattle.std.proofs.Common.{◌≡◌, ◌++◌, take, drop}
use Rattle.std.proofs.Common.{map}
use Rattle.tbl_words.specs.Machine.{after_leave}
use Rattle.list_tables.proofs.tables.unregister_left.Given as goal

-- those seen are done, the others are as they were
abbrev pub invariant-loop-table : goal.invariant-loop-table
invariant-loop-table l = l.table-items ≡ map (after_leave l.left) (take l.table-index l.initial.table-items) ++ drop l.table-index l.initial.table-items
