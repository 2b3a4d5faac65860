use Rattle.std.proofs.Common.{◌≡◌, ◌+◌, ◌*◌, ◌≤◌, drop}
use Rattle.tbl_words.specs.Tables.{blocks_out}
use Rattle.list_tables.proofs.room.blocks_out.Given as goal

-- what is left makes up the sum, and each table has added two at the most
abbrev pub invariant-loop-table : goal.invariant-loop-table
invariant-loop-table l = record {
  sum : l.count + blocks_out l.sizes (drop l.table-index l.tables) l.block ≡ blocks_out l.sizes l.tables l.block;
  few : l.count ≤ 2 * l.table-index;
}
