use Rattle.std.proofs.Common.{[], ◌∷◌, ◌++◌, length, ap, ◌∙◌, arith}
use Rattle.lend_block.specs.declared.note.Note.TheVariants.{Nothing}
use Rattle.buf_desc.specs.Held.{bytes_at}
use Rattle.ccsds_msg.specs.Message.{message_id}
use Rattle.bus_words.specs.declared.calls.BusAnswer.TheVariants.{Done}
use Rattle.bus_words.specs.declared.history.Call.TheVariants.{TransmitBuffer}
use Rattle.bus_words.specs.Bus.{State, route}
use Rattle.bus_words.specs.Log.{with_entry}
use Rattle.sb_calls.specs.Core.{drops_for}
use Rattle.sb_calls.proofs.CoreBags.{bag_in, bag_out}
use Rattle.sb_calls.proofs.BufferEffects.{made_transmit_buffer, brings-held, some_pushed, pushed_then_answered}
use Rattle.sb_calls.proofs.OthersBags.{others_keep}
use Rattle.sb_calls.proofs.EntryLemma.{may_act, stands_over, does_over, bus_now}
use Rattle.sb_calls.proofs.journalled.BusCore.transmit_buffer.Goals as goal

pub transmit_buffer-result-requires : goal.transmit_buffer-result-requires
transmit_buffer-result-requires g c = record {
  may = may_act c.self.inside c.args.self.now c.args.app (TransmitBuffer c.args.buf (bytes_at c.args.held.now c.args.buf) c.args.inc) c.self.view_is c.self.invariant c.requires.may;
  bag = bag_in c.self.inside c.args.self.now c.args.app c.args.held.now c.self.view_is c.self.invariant c.requires.bag;
}

pub set_answer-requires : goal.set_answer-requires
set_answer-requires g c = some_pushed c.self.inside.noted c.push.new.self _ Nothing c.push.ensures

pub invariant_of-self : goal.invariant_of-self
invariant_of-self g c =
    let a = c.self.inside in
    let app = c.args.app in
    let buf = c.args.buf in
    let inc = c.args.inc in
    let bytes = bytes_at c.args.held.now buf in
    let told = c.of_sent.result in
    let bag = bag_in a c.args.self.now app c.args.held.now c.self.view_is c.self.invariant c.requires.bag in
    let pushed =
    pushed_then_answered a.noted c.push.new.self c.set_answer.new.self (record { app = app; call = TransmitBuffer buf c.bytes_of.result.now inc; answer = Done }) told
    c.push.ensures c.set_answer.ensures.entries c.set_answer.ensures.budgets c.set_answer.ensures.notes
    ∙ ap (λ bs. record { log = with_entry a.noted.log (record { app = app; call = TransmitBuffer buf bs inc; answer = told }); notes = a.noted.notes ++ Nothing ∷ [] }) c.bytes_of.ensures in
    stands_over a c.transmit_buffer-result.new.core c.set_answer.new.self c.args.self.now app (TransmitBuffer buf bytes inc) _ c.self.view_is c.self.invariant c.requires.may
    (made_transmit_buffer a c.transmit_buffer-result.new.core c.set_answer.new.self app buf bytes inc c.transmit_buffer-result.result told c.self.invariant (brings-held a app buf inc c.args.held.now bag)
    c.transmit_buffer-result.ensures.does c.of_sent.ensures c.transmit_buffer-result.ensures.refused c.transmit_buffer-result.ensures.descs c.transmit_buffer-result.ensures.loans pushed)

pub returns-clause-does : goal.returns-clause-does
returns-clause-does g c =
    let a = c.self.inside in
    let app = c.args.app in
    let buf = c.args.buf in
    let inc = c.args.inc in
    let bytes = bytes_at c.args.held.now buf in
    let told = c.of_sent.result in
    let bag = bag_in a c.args.self.now app c.args.held.now c.self.view_is c.self.invariant c.requires.bag in
    let pushed =
    pushed_then_answered a.noted c.push.new.self c.set_answer.new.self (record { app = app; call = TransmitBuffer buf c.bytes_of.result.now inc; answer = Done }) told
    c.push.ensures c.set_answer.ensures.entries c.set_answer.ensures.budgets c.set_answer.ensures.notes
    ∙ ap (λ bs. record { log = with_entry a.noted.log (record { app = app; call = TransmitBuffer buf bs inc; answer = told }); notes = a.noted.notes ++ Nothing ∷ [] }) c.bytes_of.ensures in
    does_over a c.transmit_buffer-result.new.core c.set_answer.new.self c.args.self.now app (TransmitBuffer buf bytes inc) _ c.self.view_is c.self.invariant c.requires.may
    (made_transmit_buffer a c.transmit_buffer-result.new.core c.set_answer.new.self app buf bytes inc c.transmit_buffer-result.result told c.self.invariant (brings-held a app buf inc c.args.held.now bag)
    c.transmit_buffer-result.ensures.does c.of_sent.ensures c.transmit_buffer-result.ensures.refused c.transmit_buffer-result.ensures.descs c.transmit_buffer-result.ensures.loans pushed)

pub returns-clause-bag : goal.returns-clause-bag
returns-clause-bag g c =
    bag_out (record { core = c.transmit_buffer-result.new.core; noted = c.set_answer.new.self }) c.args.app c.transmit_buffer-result.new.held (invariant_of-self g c) c.transmit_buffer-result.ensures.bag

pub returns-clause-other_bags : goal.returns-clause-other_bags
returns-clause-other_bags g c =
    others_keep c.args.self.now _ c.args.app (TransmitBuffer c.args.buf (bytes_at c.args.held.now c.args.buf) c.args.inc) _ (returns-clause-does g c)

pub returns-clause-cost : goal.returns-clause-cost
returns-clause-cost g c =
    let same = ap (λ (s : State). length (route s.subscriptions (message_id (bytes_at c.args.held.now c.args.buf)))) (bus_now c.self.inside c.args.self.now c.self.view_is c.self.invariant) in
    let few = ap (λ (s : State). drops_for s c.args.app (message_id (bytes_at c.args.held.now c.args.buf))) (bus_now c.self.inside c.args.self.now c.self.view_is c.self.invariant) in
    omega (arith, same, few, c.transmit_buffer-result.ensures.cost)
