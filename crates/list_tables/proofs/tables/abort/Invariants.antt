use Rattle.std.proofs.Common.{◌≡◌, ◌++◌, take, drop}
use Rattle.std.proofs.Common.{None}
use Rattle.tbl_words.specs.Tables.{with_table}
use Rattle.list_tables.proofs.tables.abort.Given as goal

-- those seen are done, the others are as they were
abbrev pub invariant-loop-table : goal.invariant-loop-table
invariant-loop-table l = l.table-items ≡ with_table (λ t. record t { staged = None }) l.number (take l.table-index l.initial.table-items) ++ drop l.table-index l.initial.table-items
