-- One grant further.
use Rattle.std.proofs.Common.{sym}
use Rattle.app_pools.proofs.Returns.{one_back, cost_left}
use Rattle.app_pools.proofs.pool.free_all_of.Goals as goal

pub loop-grant-preserved : goal.loop-grant-preserved
loop-grant-preserved g c =
    let old = c.args.pool.now in
    let mid = c.loop-grant.pool in
    let new = c.free_if_of.new.pool in
    let lent = c.args.lent.now in
    let at = c.loop-grant.invariant in
    let here = sym c.grant-item.is in
    record {
      blocks = c.requires.blocks;
      back = one_back old mid new lent c.args.app c.loop-grant.grant-index c.grant-item.result c.requires.blocks at.back c.loop-grant-test.true here c.free_if_of.ensures.after;
      cost = cost_left old mid new lent c.args.app c.loop-grant.grant-index c.grant-item.result c.requires.blocks at.back c.loop-grant-test.true here c.args.steps.now c.loop-grant.steps c.free_if_of.new.steps at.cost c.free_if_of.ensures.cost;
    }
