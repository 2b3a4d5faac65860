use Rattle.std.proofs.Common.{length, ap, arith, refl}
use Rattle.bus_words.specs.declared.history.Call.TheVariants.{Transmit}
use Rattle.ccsds_msg.specs.Message.{message_id}
use Rattle.bus_words.specs.Bus.{State, route}
use Rattle.sb_calls.specs.Core.{drops_for}
use Rattle.sb_calls.proofs.CoreBags.{bags_over}
use Rattle.sb_calls.proofs.CallEffects.{made_plain, sent-nothing}
use Rattle.sb_calls.proofs.EntryLemma.{may_act, few_sends, stands_over, does_over, bus_now}
use Rattle.sb_calls.proofs.journalled.BusCore.transmit.Goals as goal

pub transmit-result-requires : goal.transmit-result-requires
transmit-result-requires g c = record { may = may_act c.self.inside c.args.self.now c.args.app (Transmit c.args.bytes.now c.args.inc) c.self.view_is c.self.invariant c.requires.may; few = few_sends c.self.inside c.args.self.now c.args.app (Transmit c.args.bytes.now c.args.inc) c.self.view_is c.self.invariant c.requires.may }

pub invariant_of-self : goal.invariant_of-self
invariant_of-self g c =
    stands_over c.self.inside c.transmit-result.new.core c.push.new.self c.args.self.now c.args.app (Transmit c.args.bytes.now c.args.inc) _ c.self.view_is c.self.invariant c.requires.may
    (made_plain c.self.inside c.transmit-result.new.core c.push.new.self c.args.app (Transmit c.args.bytes.now c.args.inc) _ c.of_sent.result c.transmit-result.ensures.does refl refl c.of_sent.ensures
    c.push.ensures (sent-nothing c.transmit-result.result (Transmit c.args.bytes.now c.args.inc) 0) (λ pipe. refl) (λ number. refl) c.transmit-result.ensures.loans c.transmit-result.ensures.descs)

pub returns-clause-does : goal.returns-clause-does
returns-clause-does g c =
    does_over c.self.inside c.transmit-result.new.core c.push.new.self c.args.self.now c.args.app (Transmit c.args.bytes.now c.args.inc) _ c.self.view_is c.self.invariant c.requires.may
    (made_plain c.self.inside c.transmit-result.new.core c.push.new.self c.args.app (Transmit c.args.bytes.now c.args.inc) _ c.of_sent.result c.transmit-result.ensures.does refl refl c.of_sent.ensures
    c.push.ensures (sent-nothing c.transmit-result.result (Transmit c.args.bytes.now c.args.inc) 0) (λ pipe. refl) (λ number. refl) c.transmit-result.ensures.loans c.transmit-result.ensures.descs)

pub returns-clause-bags : goal.returns-clause-bags
returns-clause-bags g c =
    bags_over c.self.inside (record { core = c.transmit-result.new.core; noted = c.push.new.self }) c.args.self.now c.self.view_is c.self.invariant (invariant_of-self g c) c.transmit-result.ensures.bags

pub returns-clause-cost : goal.returns-clause-cost
returns-clause-cost g c =
    let same = ap (λ (s : State). length (route s.subscriptions (message_id c.args.bytes.now))) (bus_now c.self.inside c.args.self.now c.self.view_is c.self.invariant) in
    let few = ap (λ (s : State). drops_for s c.args.app (message_id c.args.bytes.now)) (bus_now c.self.inside c.args.self.now c.self.view_is c.self.invariant) in
    omega (arith, same, few, c.transmit-result.ensures.cost)
