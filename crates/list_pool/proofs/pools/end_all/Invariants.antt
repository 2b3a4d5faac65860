use Rattle.std.proofs.Common.{◌≡◌, ◌++◌, map, take, drop, length}
use Rattle.fsw_base.specs.Grants.{after_end}
use Rattle.list_pool.proofs.pools.end_all.Given as goal

-- the first pools are done, the others are as they were
abbrev pub invariant-loop-place : goal.invariant-loop-place
invariant-loop-place l = record {
  ended : l.pools.items ≡ map (after_end l.app) (take l.place l.initial.pools.items) ++ drop l.place l.initial.pools.items;
  long : length l.pools.items ≡ length l.initial.pools.items;
}
