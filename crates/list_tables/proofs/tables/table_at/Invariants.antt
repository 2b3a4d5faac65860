use Rattle.std.proofs.Common.{◌≡◌, drop}
use Rattle.tbl_words.specs.Tables.{table_at}
use Rattle.list_tables.proofs.tables.table_at.Given as goal

-- what is left decides
abbrev pub invariant-loop-table : goal.invariant-loop-table
invariant-loop-table l = table_at (drop l.table-index l.tables) l.number ≡ table_at l.tables l.number
