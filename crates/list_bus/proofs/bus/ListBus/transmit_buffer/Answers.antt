use Rattle.std.proofs.Common.{◌≡◌, cond, eq-eqb, true≢false, length, length-take-le, take, ◌≤◌, map, List, refl, sym, ap, ◌∙◌, arith}
use Rattle.std.specs.Vec.{vec_len}
use Rattle.ccsds_msg.specs.Message.{message_id, message_size}
use Rattle.ccsds_msg.proofs.MessageLemmas.{front-length, front-size}
use Rattle.bus_words.specs.declared.calls.BusAnswer.TheVariants.{Sent}
use Rattle.bus_words.specs.declared.history.Call.TheVariants.{TransmitBuffer}
use Rattle.bus_words.specs.Acts.{NextCount, moved_on, reads_in}
use Rattle.bus_words.specs.Bus.{route, reached}
use Rattle.bus_words.specs.Machine.{by_bus, stamped}
use Rattle.list_messages.specs.Messages.{passing_of, with_passed}
use Rattle.list_bus.specs.Inside.{means}
use Rattle.list_bus.proofs.DecidedCalls.{accepted, limits_with}
use Rattle.list_bus.proofs.SendCalls.{begins, passed_made}
use Rattle.list_bus.proofs.bus.ListBus.transmit_buffer.Goals as goal

pub id_of-id-requires : goal.id_of-id-requires
id_of-id-requires c =
    omega (arith, front-length c.args.bytes.now (begins c.args.self.now.whole.bus c.args.app c.args.buf c.args.bytes.now (sym c.transmit_buffer_cause.ensures ∙ c.in_default.is)))

pub size_of-size-requires : goal.size_of-size-requires
size_of-size-requires c =
    omega (arith, front-length c.args.bytes.now (begins c.args.self.now.whole.bus c.args.app c.args.buf c.args.bytes.now (sym c.transmit_buffer_cause.ensures ∙ c.in_default.is)))

pub slice_bounds-stamped_message-end : goal.slice_bounds-stamped_message-end
slice_bounds-stamped_message-end c =
    let bytes = c.args.bytes.now in
    let fits = front-size bytes (begins c.args.self.now.whole.bus c.args.app c.args.buf bytes (sym c.transmit_buffer_cause.ensures ∙ c.in_default.is)) in
    sym (length-take-le c.size_of-size.result bytes (omega (arith, c.size_of-size.ensures, fits)))

pub stamped_message-requires : goal.stamped_message-requires
stamped_message-requires c =
    let bytes = c.args.bytes.now in
    let fits = front-size bytes (begins c.args.self.now.whole.bus c.args.app c.args.buf bytes (sym c.transmit_buffer_cause.ensures ∙ c.in_default.is)) in
    let least : 7 ≤ message_size bytes = omega arith in
    omega (arith, least, c.size_of-size.ensures, length-take-le c.size_of-size.result bytes (omega (arith, c.size_of-size.ensures, fits)))

pub returns-clause-made : goal.returns-clause-made
returns-clause-made c =
    let a = c.self.inside in
    let part = a.messages.part in
    let bytes = c.args.bytes.now in
    let buf = c.args.buf in
    let inc = c.args.inc in
    let subs = c.in_ok-subs.subs.items in
    let message = c.in_ok-message.message.items in
    let done = c.in_ok-done.ensures in
    let m = c.send_buffer.new.self in
    let passing = passing_of part c.args.app buf message in
    let routed = c.in_ok-subs.ensures ∙ ap (route a.subs.subscriptions) c.id_of-id.ensures in
    let as_long : length subs ≡ vec_len c.in_ok-subs.subs = sym (ap length c.deref.ensures.value) ∙ c.deref.ensures.len in
    let some : length subs ≡ 0 → ⊥ = λ none. true≢false (sym (eq-eqb (vec_len c.in_ok-subs.subs) 0 (sym as_long ∙ none)) ∙ sym c.is_empty.ensures ∙ c.if-is_empty.false) in
    let as_sent = c.in_ok-message.ensures ∙ ap (λ size. stamped (reads_in (means a)) (take size bytes) inc) c.size_of-size.ensures in
    let counted =
    c.move_if.ensures
    ∙ ap (λ id. cond {A = List NextCount} c.is_counted.result (map (moved_on id) a.nexts) a.nexts) c.id_of-id.ensures
    ∙ ap (λ b. cond {A = List NextCount} b (map (moved_on (message_id bytes)) a.nexts) a.nexts) c.is_counted.ensures in
    accepted a (record a { messages = m; nexts = c.move_if.new.nexts }) c.args.self.now c.self.view_is c.args.app (TransmitBuffer buf bytes inc)
    (ap (limits_with a) done.after) refl refl done.kept (Sent buf c.in_ok-done.done.reached) (ap by_bus (sym c.transmit_buffer_cause.ensures ∙ c.in_default.is))
    (passed_made a c.args.app bytes inc subs routed buf some message as_sent c.in_ok-done.done.reached m.part c.move_if.new.nexts
    (done.reached ∙ ap (λ ss. reached passing ss part.pipes) c.deref.ensures.value) (done.after ∙ ap (with_passed part passing) c.deref.ensures.value) counted)
