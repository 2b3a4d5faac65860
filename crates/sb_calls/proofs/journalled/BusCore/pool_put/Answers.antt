use Rattle.std.proofs.Common.{refl}
use Rattle.bus_words.specs.declared.history.Call.TheVariants.{PoolPut}
use Rattle.sb_calls.proofs.CoreBags.{bags_over}
use Rattle.sb_calls.proofs.CallEffects.{made_plain, back-nothing}
use Rattle.sb_calls.proofs.EntryLemma.{may_act, stands_over, does_over}
use Rattle.sb_calls.proofs.journalled.BusCore.pool_put.Goals as goal

pub pool_put-result-requires : goal.pool_put-result-requires
pool_put-result-requires g c = record { may = may_act c.self.inside c.args.self.now c.args.app (PoolPut c.args.pool c.args.grant) c.self.view_is c.self.invariant c.requires.may }

pub invariant_of-self : goal.invariant_of-self
invariant_of-self g c =
    stands_over c.self.inside c.pool_put-result.new.self c.push.new.self c.args.self.now c.args.app (PoolPut c.args.pool c.args.grant) _ c.self.view_is c.self.invariant c.requires.may
    (made_plain c.self.inside c.pool_put-result.new.self c.push.new.self c.args.app (PoolPut c.args.pool c.args.grant) _ c.of_back.result c.pool_put-result.ensures.does refl refl c.of_back.ensures
    c.push.ensures (back-nothing c.pool_put-result.result (PoolPut c.args.pool c.args.grant) 0) (λ pipe. refl) (λ number. refl) c.pool_put-result.ensures.loans c.pool_put-result.ensures.descs)

pub returns-clause-does : goal.returns-clause-does
returns-clause-does g c =
    does_over c.self.inside c.pool_put-result.new.self c.push.new.self c.args.self.now c.args.app (PoolPut c.args.pool c.args.grant) _ c.self.view_is c.self.invariant c.requires.may
    (made_plain c.self.inside c.pool_put-result.new.self c.push.new.self c.args.app (PoolPut c.args.pool c.args.grant) _ c.of_back.result c.pool_put-result.ensures.does refl refl c.of_back.ensures
    c.push.ensures (back-nothing c.pool_put-result.result (PoolPut c.args.pool c.args.grant) 0) (λ pipe. refl) (λ number. refl) c.pool_put-result.ensures.loans c.pool_put-result.ensures.descs)

pub returns-clause-bags : goal.returns-clause-bags
returns-clause-bags g c =
    bags_over c.self.inside (record { core = c.pool_put-result.new.self; noted = c.push.new.self }) c.args.self.now c.self.view_is c.self.invariant (invariant_of-self g c) c.pool_put-result.ensures.bags
