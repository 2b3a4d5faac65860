use Rattle.std.proofs.Common.{◌≡◌, ap, sum_by, subst, sym, ◌∙◌}
use Rattle.es_pool.specs.Pool.{PoolState, in_use_by}
use Rattle.es_pool.specs.Account.{IsAccountOf}
use Rattle.bus_words.specs.Held.{held, block_of}
use Rattle.bus_messages.specs.Blocks.{IsBlockPool}
use Rattle.bus_messages.specs.Store.{Store}
use Rattle.bus_messages.proofs.BlocksOut.{in_use_held}
use Rattle.bus_messages.proofs.ShownBlocks.{are_blocks}
use Rattle.bus_messages.proofs.store.BusStore.pool.Goals as goal

pub returns-clause-blocks : goal.returns-clause-blocks
returns-clause-blocks c =
    let a = c.self.inside in
    subst (λ (o : Store). IsBlockPool c.pool.result.now o.pipes o.loans o.unsent o.descs) c.self.view_is
    (record {
      buffers = a.desk;
      are = are_blocks a.desk a.tables.pipes a.lists.lists a.given c.self.invariant.backed c.self.invariant.listed c.recall_live.ensures.whole;
      is = c.pool.ensures;
      live = c.recall_live.ensures.live;
    })

pub returns-clause-account : goal.returns-clause-account
returns-clause-account c =
    let a = c.self.inside in
    subst (λ (p : PoolState). IsAccountOf p c.args.self.now.account) (sym c.pool.ensures)
    (subst (λ (o : Store). IsAccountOf a.desk.pool o.account) c.self.view_is c.self.invariant.backed.tied.account)

pub returns-clause-in_use : goal.returns-clause-in_use
returns-clause-in_use c =
    let a = c.self.inside in
    ap (λ (p : PoolState). in_use_by p.sizes p.blocks) c.pool.ensures
    ∙ subst (λ (o : Store). in_use_by a.desk.pool.sizes a.desk.pool.blocks ≡ sum_by (block_of o.account.sizes o.pipes o.unsent) (held o.pipes o.unsent o.numbers_given)) c.self.view_is
    (in_use_held a.desk a.tables.pipes a.lists.lists a.given c.self.invariant.backed c.self.invariant.listed c.recall_live.ensures.live)
