use Rattle.std.proofs.Common.{◌≡◌, cond, eq-eqb, true≢false, length, map, List, refl, sym, ap, ◌∙◌, arith}
use Rattle.std.specs.Vec.{vec_len}
use Rattle.bus_words.specs.declared.calls.BusAnswer.TheVariants.{Sent}
use Rattle.bus_words.specs.declared.history.Call.TheVariants.{Transmit}
use Rattle.bus_words.specs.Acts.{NextCount, moved_on}
use Rattle.bus_words.specs.Bus.{route, reached}
use Rattle.bus_words.specs.Machine.{by_bus}
use Rattle.list_messages.specs.Messages.{sending_of, with_sent}
use Rattle.list_bus.proofs.DecidedCalls.{accepted, limits_with}
use Rattle.list_bus.proofs.SendCalls.{long_enough, sent_made}
use Rattle.list_bus.proofs.bus.ListBus.transmit.Goals as goal

pub id_of-id-requires : goal.id_of-id-requires
id_of-id-requires c =
    let now = c.args.self.now in
    omega (arith, long_enough now.limits now.whole.bus c.args.bytes.now (sym c.transmit_cause.ensures ∙ c.in_default.is))

pub stamped_message-requires : goal.stamped_message-requires
stamped_message-requires c =
    let now = c.args.self.now in
    omega (arith, long_enough now.limits now.whole.bus c.args.bytes.now (sym c.transmit_cause.ensures ∙ c.in_default.is))

pub returns-clause-made : goal.returns-clause-made
returns-clause-made c =
    let a = c.self.inside in
    let part = a.messages.part in
    let bytes = c.args.bytes.now in
    let inc = c.args.inc in
    let subs = c.in_ok-subs.subs.items in
    let message = c.in_ok-message.message.items in
    let done = c.in_ok-done.ensures in
    let m = c.send.new.self in
    let sending = sending_of part c.args.app (length bytes) message in
    let routed = c.in_ok-subs.ensures ∙ ap (route a.subs.subscriptions) c.id_of-id.ensures in
    let as_long : length subs ≡ vec_len c.in_ok-subs.subs = sym (ap length c.deref.ensures.value) ∙ c.deref.ensures.len in
    let some : length subs ≡ 0 → ⊥ = λ none. true≢false (sym (eq-eqb (vec_len c.in_ok-subs.subs) 0 (sym as_long ∙ none)) ∙ sym c.is_empty.ensures ∙ c.if-is_empty.false) in
    let counted = c.move_if.ensures ∙ ap (λ id. cond {A = List NextCount} inc (map (moved_on id) a.nexts) a.nexts) c.id_of-id.ensures in
    accepted a (record a { messages = m; nexts = c.move_if.new.nexts }) c.args.self.now c.self.view_is c.args.app (Transmit bytes inc)
    (ap (limits_with a) done.after) refl refl done.kept (Sent c.in_ok-done.done.number c.in_ok-done.done.reached) (ap by_bus (sym c.transmit_cause.ensures ∙ c.in_default.is))
    (sent_made a c.args.app bytes inc subs routed some message c.in_ok-message.ensures c.in_ok-done.done.number c.in_ok-done.done.reached m.part c.move_if.new.nexts
    done.number (done.reached ∙ ap (λ ss. reached sending ss part.pipes) c.deref.ensures.value) (done.after ∙ ap (with_sent part sending) c.deref.ensures.value) counted)
