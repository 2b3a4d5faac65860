use Rattle.std.proofs.Common.{length, ap, arith, refl}
use Rattle.bus_words.specs.declared.history.Call.TheVariants.{Unsubscribe}
use Rattle.bus_words.specs.Bus.{State, route}
use Rattle.sb_calls.proofs.CoreBags.{bags_over}
use Rattle.sb_calls.proofs.CallEffects.{made_plain, done-nothing}
use Rattle.sb_calls.proofs.EntryLemma.{may_act, stands_over, does_over, bus_now}
use Rattle.sb_calls.proofs.journalled.BusCore.unsubscribe.Goals as goal

pub unsubscribe-result-requires : goal.unsubscribe-result-requires
unsubscribe-result-requires g c = record { may = may_act c.self.inside c.args.self.now c.args.app (Unsubscribe c.args.id c.args.pipe) c.self.view_is c.self.invariant c.requires.may }

pub invariant_of-self : goal.invariant_of-self
invariant_of-self g c =
    stands_over c.self.inside c.unsubscribe-result.new.self c.push.new.self c.args.self.now c.args.app (Unsubscribe c.args.id c.args.pipe) _ c.self.view_is c.self.invariant c.requires.may
    (made_plain c.self.inside c.unsubscribe-result.new.self c.push.new.self c.args.app (Unsubscribe c.args.id c.args.pipe) _ c.of_done.result c.unsubscribe-result.ensures.does refl refl c.of_done.ensures
    c.push.ensures (done-nothing c.unsubscribe-result.result (Unsubscribe c.args.id c.args.pipe) 0) (λ pipe. refl) (λ number. refl) c.unsubscribe-result.ensures.loans c.unsubscribe-result.ensures.descs)

pub returns-clause-does : goal.returns-clause-does
returns-clause-does g c =
    does_over c.self.inside c.unsubscribe-result.new.self c.push.new.self c.args.self.now c.args.app (Unsubscribe c.args.id c.args.pipe) _ c.self.view_is c.self.invariant c.requires.may
    (made_plain c.self.inside c.unsubscribe-result.new.self c.push.new.self c.args.app (Unsubscribe c.args.id c.args.pipe) _ c.of_done.result c.unsubscribe-result.ensures.does refl refl c.of_done.ensures
    c.push.ensures (done-nothing c.unsubscribe-result.result (Unsubscribe c.args.id c.args.pipe) 0) (λ pipe. refl) (λ number. refl) c.unsubscribe-result.ensures.loans c.unsubscribe-result.ensures.descs)

pub returns-clause-bags : goal.returns-clause-bags
returns-clause-bags g c =
    bags_over c.self.inside (record { core = c.unsubscribe-result.new.self; noted = c.push.new.self }) c.args.self.now c.self.view_is c.self.invariant (invariant_of-self g c) c.unsubscribe-result.ensures.bags

pub returns-clause-cost : goal.returns-clause-cost
returns-clause-cost g c =
    let same = ap (λ (s : State). length (route s.subscriptions c.args.id)) (bus_now c.self.inside c.args.self.now c.self.view_is c.self.invariant) in
    omega (arith, same, c.unsubscribe-result.ensures.cost)
