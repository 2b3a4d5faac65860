use Rattle.std.proofs.Common.{◌≡◌, false, replicate, vec_len, vec_capacity}
use Rattle.table_core.proofs.plain.none_ended.Given as goal

-- none of those that were counted has ended, and there is room for all
abbrev pub invariant-loop : goal.invariant-loop
invariant-loop l = (l.ended.items ≡ replicate l.counter false) × (vec_len l.ended ≡ l.counter) × (vec_capacity l.ended ≡ l.apps)
