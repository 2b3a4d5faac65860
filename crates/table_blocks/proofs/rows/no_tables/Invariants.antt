use Rattle.std.proofs.Common.{◌≡◌, None, replicate, vec_capacity}
use Rattle.table_blocks.proofs.rows.no_tables.Given as goal

abbrev pub invariant-loop-key : goal.invariant-loop-key
invariant-loop-key l = record { so_far : l.tables.items ≡ replicate l._key None; room : vec_capacity l.tables ≡ l.keys }
