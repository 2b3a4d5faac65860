use Rattle.std.proofs.Common.{◌≡◌, ◌++◌, take, drop}
use Rattle.tbl_words.specs.Tables.{with_table}
use Rattle.tbl_words.specs.Machine.{with_value}
use Rattle.list_tables.proofs.tables.set_value.Given as goal

-- those seen are done, the others are as they were
abbrev pub invariant-loop-table : goal.invariant-loop-table
invariant-loop-table l = l.table-items ≡ with_table (with_value l.value.value.items) l.number (take l.table-index l.initial.table-items) ++ drop l.table-index l.initial.table-items
