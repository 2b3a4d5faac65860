use Rattle.std.proofs.Common.{arith}
use Rattle.es_pool.proofs.Sizes.{size_small}
use Rattle.app_pools.proofs.pools.least_bytes.Goals as goal

pub overflow_add-result : goal.overflow_add-result
overflow_add-result c = omega (arith, c.at.ensures, size_small c.args.sizes.now 0 c.count.ensures.rising (omega (arith, c.count.ensures.some, c.count.ensures.count)))
