use Rattle.std.proofs.Common.{◌≡◌, ◌+◌, ◌*◌, ◌≤◌, drop}
use Rattle.tbl_words.specs.Tables.{bytes_in_use}
use Rattle.list_tables.proofs.room.bytes_in_use.Given as goal

-- what is left makes up the sum, and each table has added 160000 at the most
abbrev pub invariant-loop-table : goal.invariant-loop-table
invariant-loop-table l = record {
  sum : l.bytes + bytes_in_use l.sizes (drop l.table-index l.tables) ≡ bytes_in_use l.sizes l.tables;
  few : l.bytes ≤ 160000 * l.table-index;
}
