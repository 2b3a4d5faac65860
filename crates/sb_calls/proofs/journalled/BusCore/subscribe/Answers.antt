use Rattle.std.proofs.Common.{length, ap, arith, refl}
use Rattle.bus_words.specs.declared.history.Call.TheVariants.{Subscribe}
use Rattle.bus_words.specs.Bus.{State, route}
use Rattle.sb_calls.proofs.CoreBags.{bags_over}
use Rattle.sb_calls.proofs.CallEffects.{made_plain, done-nothing}
use Rattle.sb_calls.proofs.EntryLemma.{may_act, subscription_left, stands_over, does_over, bus_now}
use Rattle.sb_calls.proofs.journalled.BusCore.subscribe.Goals as goal

pub subscribe-result-requires : goal.subscribe-result-requires
subscribe-result-requires g c = record { may = may_act c.self.inside c.args.self.now c.args.app (Subscribe c.args.id c.args.pipe c.args.limit c.args.scope) c.self.view_is c.self.invariant c.requires.may; number = subscription_left c.self.inside c.args.self.now c.args.app (Subscribe c.args.id c.args.pipe c.args.limit c.args.scope) c.self.view_is c.self.invariant c.requires.may }

pub invariant_of-self : goal.invariant_of-self
invariant_of-self g c =
    stands_over c.self.inside c.subscribe-result.new.self c.push.new.self c.args.self.now c.args.app (Subscribe c.args.id c.args.pipe c.args.limit c.args.scope) _ c.self.view_is c.self.invariant c.requires.may
    (made_plain c.self.inside c.subscribe-result.new.self c.push.new.self c.args.app (Subscribe c.args.id c.args.pipe c.args.limit c.args.scope) _ c.of_done.result c.subscribe-result.ensures.does refl refl c.of_done.ensures
    c.push.ensures (done-nothing c.subscribe-result.result (Subscribe c.args.id c.args.pipe c.args.limit c.args.scope) 0) (λ pipe. refl) (λ number. refl) c.subscribe-result.ensures.loans c.subscribe-result.ensures.descs)

pub returns-clause-does : goal.returns-clause-does
returns-clause-does g c =
    does_over c.self.inside c.subscribe-result.new.self c.push.new.self c.args.self.now c.args.app (Subscribe c.args.id c.args.pipe c.args.limit c.args.scope) _ c.self.view_is c.self.invariant c.requires.may
    (made_plain c.self.inside c.subscribe-result.new.self c.push.new.self c.args.app (Subscribe c.args.id c.args.pipe c.args.limit c.args.scope) _ c.of_done.result c.subscribe-result.ensures.does refl refl c.of_done.ensures
    c.push.ensures (done-nothing c.subscribe-result.result (Subscribe c.args.id c.args.pipe c.args.limit c.args.scope) 0) (λ pipe. refl) (λ number. refl) c.subscribe-result.ensures.loans c.subscribe-result.ensures.descs)

pub returns-clause-bags : goal.returns-clause-bags
returns-clause-bags g c =
    bags_over c.self.inside (record { core = c.subscribe-result.new.self; noted = c.push.new.self }) c.args.self.now c.self.view_is c.self.invariant (invariant_of-self g c) c.subscribe-result.ensures.bags

pub returns-clause-cost : goal.returns-clause-cost
returns-clause-cost g c =
    let same = ap (λ (s : State). length (route s.subscriptions c.args.id)) (bus_now c.self.inside c.args.self.now c.self.view_is c.self.invariant) in
    omega (arith, same, c.subscribe-result.ensures.cost)
