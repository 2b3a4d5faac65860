use Rattle.std.proofs.Common.{arith}
use Rattle.list_pool.proofs.Costs.{size_small}
use Rattle.list_pool.proofs.account.cost_of.Goals as goal

pub block_cost-cost-requires : goal.block_cost-cost-requires
block_cost-cost-requires c =
    omega (arith, size_small c.args.sizes.now c.loop-class.class c.count-class-end.ensures.rising (omega arith), c.at.ensures)
