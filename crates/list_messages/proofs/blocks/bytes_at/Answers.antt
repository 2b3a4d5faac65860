use Rattle.std.proofs.Common.{◌^◌, ◌-◌, arith}
use Rattle.list_pool.proofs.Costs.{product_small}
use Rattle.list_messages.proofs.blocks.bytes_at.Goals as goal

pub overflow_mul-result : goal.overflow_mul-result
overflow_mul-result c =
    omega (arith, product_small c.from.result c.from-2.result (2 ^ 32 - 1) (2 ^ 32 - 1) (omega arith) (omega arith))
