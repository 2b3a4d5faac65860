use Rattle.std.proofs.Common.{◌≤◌, ◌^◌, arith}
use Rattle.list_pool.proofs.Costs.{size_small, product_small}
use Rattle.list_pool.proofs.account.has_room_in.Goals as goal

pub overflow_add-at : goal.overflow_add-at
overflow_add-at c = omega (arith, size_small c.args.sizes.now c.args.class c.cost_of-taken.ensures.fit c.requires.class, c.at.ensures)

pub overflow_mul-cost : goal.overflow_mul-cost
overflow_mul-cost c =
    let block : c.from-2.result ≤ 80016 = omega (arith, size_small c.args.sizes.now c.args.class c.cost_of-taken.ensures.fit c.requires.class, c.at.ensures) in
    let more : c.saturating_sub-more.result ≤ 2 ^ 33 = omega arith in
    omega (arith, product_small c.from-2.result c.saturating_sub-more.result 80016 (2 ^ 33) block more)

pub overflow_add-result : goal.overflow_add-result
overflow_add-result c =
    let block : c.from-2.result ≤ 80016 = omega (arith, size_small c.args.sizes.now c.args.class c.cost_of-taken.ensures.fit c.requires.class, c.at.ensures) in
    let more : c.saturating_sub-more.result ≤ 2 ^ 33 = omega arith in
    omega (arith, product_small c.from-2.result c.saturating_sub-more.result 80016 (2 ^ 33) block more, c.cost_of-taken.ensures.few)
