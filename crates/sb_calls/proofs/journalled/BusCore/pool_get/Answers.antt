use Rattle.std.proofs.Common.{refl}
use Rattle.bus_words.specs.declared.history.Call.TheVariants.{PoolGet}
use Rattle.sb_calls.proofs.CoreBags.{bags_over}
use Rattle.sb_calls.proofs.CallEffects.{made_plain, grant-nothing}
use Rattle.sb_calls.proofs.EntryLemma.{may_act, few_grants, stands_over, does_over}
use Rattle.sb_calls.proofs.journalled.BusCore.pool_get.Goals as goal

pub pool_get-result-requires : goal.pool_get-result-requires
pool_get-result-requires g c = record { may = may_act c.self.inside c.args.self.now c.args.app (PoolGet c.args.pool c.args.size) c.self.view_is c.self.invariant c.requires.may; few = few_grants c.self.inside c.args.self.now c.args.app c.args.pool (PoolGet c.args.pool c.args.size) c.self.view_is c.self.invariant c.requires.may }

pub invariant_of-self : goal.invariant_of-self
invariant_of-self g c =
    stands_over c.self.inside c.pool_get-result.new.core c.push.new.self c.args.self.now c.args.app (PoolGet c.args.pool c.args.size) _ c.self.view_is c.self.invariant c.requires.may
    (made_plain c.self.inside c.pool_get-result.new.core c.push.new.self c.args.app (PoolGet c.args.pool c.args.size) _ c.of_pool.result c.pool_get-result.ensures.does refl refl c.of_pool.ensures
    c.push.ensures (grant-nothing c.pool_get-result.result c.args.pool c.args.size 0) (λ pipe. refl) (λ number. refl) c.pool_get-result.ensures.loans c.pool_get-result.ensures.descs)

pub returns-clause-does : goal.returns-clause-does
returns-clause-does g c =
    does_over c.self.inside c.pool_get-result.new.core c.push.new.self c.args.self.now c.args.app (PoolGet c.args.pool c.args.size) _ c.self.view_is c.self.invariant c.requires.may
    (made_plain c.self.inside c.pool_get-result.new.core c.push.new.self c.args.app (PoolGet c.args.pool c.args.size) _ c.of_pool.result c.pool_get-result.ensures.does refl refl c.of_pool.ensures
    c.push.ensures (grant-nothing c.pool_get-result.result c.args.pool c.args.size 0) (λ pipe. refl) (λ number. refl) c.pool_get-result.ensures.loans c.pool_get-result.ensures.descs)

pub returns-clause-bags : goal.returns-clause-bags
returns-clause-bags g c =
    bags_over c.self.inside (record { core = c.pool_get-result.new.core; noted = c.push.new.self }) c.args.self.now c.self.view_is c.self.invariant (invariant_of-self g c) c.pool_get-result.ensures.bags
