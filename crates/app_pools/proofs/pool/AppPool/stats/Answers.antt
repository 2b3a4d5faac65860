-- The bytes never cut, by the account as by the pool.
use Rattle.std.proofs.Common.{◌-◌, ap, sym, ◌∙◌}
use Rattle.fsw_base.specs.declared.config.PoolStats.{PoolStats}
use Rattle.es_pool.proofs.Law.{rest_alike}
use Rattle.fsw_base.specs.Grants.{figures_of}
use Rattle.app_pools.specs.Inside.{account_in}
use Rattle.app_pools.proofs.pool.AppPool.stats.Goals as goal

pub returns : goal.returns
returns c =
    let pool = c.self.inside.pool in
    c.stats.ensures
    ∙ (ap (λ used. let figures : PoolStats = record { size = pool.bytes; requests = pool.requests; errors = pool.errors; free = pool.bytes - used } in figures) (sym (rest_alike pool (account_in pool c.self.inside.lent.items) c.self.invariant.account))
    ∙ ap figures_of c.self.view_is)
