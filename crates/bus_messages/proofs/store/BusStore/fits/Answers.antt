use Rattle.std.proofs.Common.{ap, ◌∙◌}
use Rattle.fsw_base.specs.PoolAccounts.{has_room}
use Rattle.es_pool.specs.Pool.{PoolState, fits}
use Rattle.bus_messages.specs.Store.{Store}
use Rattle.bus_messages.proofs.Pool.{room_counted}
use Rattle.bus_messages.proofs.store.BusStore.fits.Goals as goal

pub returns : goal.returns
returns c =
    let a = c.self.inside in
    c.fits.ensures
    ∙ ap (λ (p : PoolState). fits p c.args.size 1) c.pool.ensures
    ∙ room_counted a.desk.pool c.args.size c.self.invariant.backed.tied.account
    ∙ ap (λ (o : Store). has_room o.account c.args.size) c.self.view_is
