use Rattle.std.proofs.Common.{arith}
use Rattle.es_pool.proofs.Sizes.{size_small}
use Rattle.es_pool.proofs.plain.cost_of.Goals as goal

pub overflow_add-cost : goal.overflow_add-cost
overflow_add-cost c =
    omega (arith, size_small c.args.sizes.now c.loop-class.class c.count-class-end.ensures.rising (omega arith))
