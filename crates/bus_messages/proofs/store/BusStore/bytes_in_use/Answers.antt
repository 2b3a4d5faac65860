use Rattle.std.proofs.Common.{◌≡◌, ap, subst, ◌∙◌}
use Rattle.es_pool.specs.Pool.{PoolState, in_use_by}
use Rattle.bus_words.specs.Held.{bytes_in_use}
use Rattle.bus_messages.specs.Store.{Store}
use Rattle.bus_messages.proofs.Accounts.{bytes_law}
use Rattle.bus_messages.proofs.store.BusStore.bytes_in_use.Goals as goal

pub returns : goal.returns
returns c =
    let a = c.self.inside in
    c.bytes_in_use.ensures
    ∙ ap (λ (p : PoolState). in_use_by p.sizes p.blocks) c.pool.ensures
    ∙ subst (λ (o : Store). in_use_by a.desk.pool.sizes a.desk.pool.blocks ≡ bytes_in_use o.account) c.self.view_is
    (bytes_law a c.self.invariant c.recall_live.ensures.live)
