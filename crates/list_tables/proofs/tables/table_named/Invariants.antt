use Rattle.std.proofs.Common.{◌≡◌, drop}
use Rattle.tbl_words.specs.Tables.{table_named}
use Rattle.list_tables.proofs.tables.table_named.Given as goal

-- what is left decides
abbrev pub invariant-loop-table : goal.invariant-loop-table
invariant-loop-table l = table_named (drop l.table-index l.tables) l.name ≡ table_named l.tables l.name
