use Rattle.std.proofs.Common.{◌≡◌, ◌++◌, take, drop}
use Rattle.std.proofs.Common.{false}
use Rattle.tbl_words.specs.Tables.{with_table}
use Rattle.tbl_words.specs.Machine.{with_range, with_staged}
use Rattle.list_tables.proofs.tables.stage.Given as goal

-- those seen are done, the others are as they were
abbrev pub invariant-loop-table : goal.invariant-loop-table
invariant-loop-table l = l.table-items ≡ with_table (λ t. with_staged (with_range t.value l.offset l.bytes) false t) l.number (take l.table-index l.initial.table-items) ++ drop l.table-index l.initial.table-items
