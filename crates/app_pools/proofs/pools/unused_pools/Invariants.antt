use Rattle.std.proofs.Common.{◌≡◌, replicate, vec_capacity}
use Rattle.fsw_base.specs.Grants.{new_pool}
use Rattle.app_pools.proofs.pools.unused_pools.Given as goal

-- as many pools as were counted
abbrev pub invariant-loop : goal.invariant-loop
invariant-loop l = (l.places.items ≡ replicate l.counter (new_pool l.sizes l.bytes)) × (vec_capacity l.places ≡ l.count)
