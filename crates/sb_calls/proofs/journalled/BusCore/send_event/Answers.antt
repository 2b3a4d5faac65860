use Rattle.std.proofs.Common.{refl}
use Rattle.bus_words.specs.declared.history.Call.TheVariants.{SendEvent}
use Rattle.sb_calls.proofs.CoreBags.{bags_over}
use Rattle.sb_calls.proofs.CallEffects.{made_plain, event-nothing}
use Rattle.sb_calls.proofs.EntryLemma.{may_act, stands_over, does_over}
use Rattle.sb_calls.proofs.journalled.BusCore.send_event.Goals as goal

pub send_event-result-requires : goal.send_event-result-requires
send_event-result-requires c = record { may = may_act c.self.inside c.args.self.now c.args.app (SendEvent c.args.id c.args.kind c.args.text.now) c.self.view_is c.self.invariant c.requires.may }

pub invariant_of-self : goal.invariant_of-self
invariant_of-self c =
    stands_over c.self.inside c.send_event-result.new.self c.push.new.self c.args.self.now c.args.app (SendEvent c.args.id c.args.kind c.args.text.now) _ c.self.view_is c.self.invariant c.requires.may
    (made_plain c.self.inside c.send_event-result.new.self c.push.new.self c.args.app (SendEvent c.args.id c.args.kind c.args.text.now) _ c.of_event.result c.send_event-result.ensures.does refl refl c.of_event.ensures
    c.push.ensures (event-nothing c.send_event-result.result (SendEvent c.args.id c.args.kind c.args.text.now) 0) (λ pipe. refl) (λ number. refl) c.send_event-result.ensures.loans c.send_event-result.ensures.descs)

pub returns-clause-does : goal.returns-clause-does
returns-clause-does c =
    does_over c.self.inside c.send_event-result.new.self c.push.new.self c.args.self.now c.args.app (SendEvent c.args.id c.args.kind c.args.text.now) _ c.self.view_is c.self.invariant c.requires.may
    (made_plain c.self.inside c.send_event-result.new.self c.push.new.self c.args.app (SendEvent c.args.id c.args.kind c.args.text.now) _ c.of_event.result c.send_event-result.ensures.does refl refl c.of_event.ensures
    c.push.ensures (event-nothing c.send_event-result.result (SendEvent c.args.id c.args.kind c.args.text.now) 0) (λ pipe. refl) (λ number. refl) c.send_event-result.ensures.loans c.send_event-result.ensures.descs)

pub returns-clause-bags : goal.returns-clause-bags
returns-clause-bags c =
    bags_over c.self.inside (record { core = c.send_event-result.new.self; noted = c.push.new.self }) c.args.self.now c.self.view_is c.self.invariant (invariant_of-self c) c.send_event-result.ensures.bags
