use Rattle.std.proofs.Common.{refl}
use Rattle.bus_words.specs.declared.history.Call.TheVariants.{PoolCreate}
use Rattle.sb_calls.proofs.CoreBags.{bags_over}
use Rattle.sb_calls.proofs.CallEffects.{made_plain, pool-nothing}
use Rattle.sb_calls.proofs.EntryLemma.{may_act, stands_over, does_over}
use Rattle.sb_calls.proofs.journalled.BusCore.pool_create.Goals as goal

pub pool_create-result-requires : goal.pool_create-result-requires
pool_create-result-requires c = record { may = may_act c.self.inside c.args.self.now c.args.app (PoolCreate c.args.bytes) c.self.view_is c.self.invariant c.requires.may }

pub invariant_of-self : goal.invariant_of-self
invariant_of-self c =
    stands_over c.self.inside c.pool_create-result.new.self c.push.new.self c.args.self.now c.args.app (PoolCreate c.args.bytes) _ c.self.view_is c.self.invariant c.requires.may
    (made_plain c.self.inside c.pool_create-result.new.self c.push.new.self c.args.app (PoolCreate c.args.bytes) _ c.of_pool.result c.pool_create-result.ensures.does refl refl c.of_pool.ensures
    c.push.ensures (pool-nothing c.pool_create-result.result c.args.bytes 0) (λ pipe. refl) (λ number. refl) c.pool_create-result.ensures.loans c.pool_create-result.ensures.descs)

pub returns-clause-does : goal.returns-clause-does
returns-clause-does c =
    does_over c.self.inside c.pool_create-result.new.self c.push.new.self c.args.self.now c.args.app (PoolCreate c.args.bytes) _ c.self.view_is c.self.invariant c.requires.may
    (made_plain c.self.inside c.pool_create-result.new.self c.push.new.self c.args.app (PoolCreate c.args.bytes) _ c.of_pool.result c.pool_create-result.ensures.does refl refl c.of_pool.ensures
    c.push.ensures (pool-nothing c.pool_create-result.result c.args.bytes 0) (λ pipe. refl) (λ number. refl) c.pool_create-result.ensures.loans c.pool_create-result.ensures.descs)

pub returns-clause-bags : goal.returns-clause-bags
returns-clause-bags c =
    bags_over c.self.inside (record { core = c.pool_create-result.new.self; noted = c.push.new.self }) c.args.self.now c.self.view_is c.self.invariant (invariant_of-self c) c.pool_create-result.ensures.bags
