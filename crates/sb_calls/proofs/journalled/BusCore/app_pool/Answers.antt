use Rattle.std.proofs.Common.{IsTrue, sym, subst}
use Rattle.es_pool.specs.Account.{IsAccountOf}
use Rattle.fsw_base.specs.Grants.{is_pool, pool_in, pool_account}
use Rattle.bus_words.specs.Bus.{State}
use Rattle.sb_calls.proofs.EntryLemma.{bus_now}
use Rattle.sb_calls.proofs.journalled.BusCore.app_pool.Goals as goal

pub app_pool-requires : goal.app_pool-requires
app_pool-requires c =
    subst (λ (s : State). IsTrue (is_pool s.pools c.args.pool)) (sym (bus_now c.self.inside c.args.self.now c.self.view_is c.self.invariant)) c.requires

pub returns : goal.returns
returns c =
    subst (λ (s : State). IsAccountOf c.app_pool.result.now (pool_account (pool_in s.pools c.args.pool))) (bus_now c.self.inside c.args.self.now c.self.view_is c.self.invariant) c.app_pool.ensures
