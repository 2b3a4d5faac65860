use Rattle.std.proofs.Common.{◌≡◌, ◌+◌, ◌*◌, ◌≤◌, ◌++◌, map, take, drop, length, sum_by}
use Rattle.fsw_base.specs.Grants.{after_end, held_by}
use Rattle.app_pools.proofs.pools.end_all.Given as goal

abbrev pub invariant-loop-place : goal.invariant-loop-place
invariant-loop-place g l = record {
  ended : l.places.items ≡ map (after_end l.app) (take l.place l.initial.places.items) ++ drop l.place l.initial.places.items;
  long : length l.places.items ≡ length l.initial.places.items;
  cost : l.steps ≤ l.initial.steps + 8 * sum_by (λ pool. held_by l.app pool.out) (take l.place l.initial.places.items);
}
