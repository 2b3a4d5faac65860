use Rattle.std.proofs.Common.{◌≡◌, ap, length, subst, ◌∙◌}
use Rattle.es_pool.specs.Pool.{PoolState, out_among}
use Rattle.bus_words.specs.Held.{held}
use Rattle.bus_messages.specs.Store.{Store}
use Rattle.bus_messages.proofs.BlocksOut.{out_all}
use Rattle.bus_messages.proofs.store.BusStore.sends_held.Goals as goal

pub returns : goal.returns
returns c =
    let a = c.self.inside in
    c.blocks_in_use.ensures
    ∙ ap (λ (p : PoolState). out_among p.blocks) c.pool.ensures
    ∙ subst (λ (o : Store). out_among a.desk.pool.blocks ≡ length (held o.pipes o.unsent o.numbers_given)) c.self.view_is
    (out_all a.desk a.tables.pipes a.lists.lists a.given c.self.invariant.backed c.self.invariant.listed c.recall_live.ensures.live)
