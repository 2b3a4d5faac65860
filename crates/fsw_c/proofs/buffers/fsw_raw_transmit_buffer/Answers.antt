use Rattle.std.proofs.Common.{◌≡◌, Some, refl, ap, sym, ◌∙◌}
use Rattle.fsw_c.specs.Buffers.{buffer_of}
use Rattle.checked_bus.specs.Box.{bag_of}
use Rattle.checked_bus.specs.Lent.{no_buffer, StaysOut}
use Rattle.fsw_c.proofs.BufferSteps.{called_transmit, accepted, refused, stays_same, stays_one, one_same, gone_one}
use Rattle.fsw_c.proofs.buffers.fsw_raw_transmit_buffer.Goals as goal

pub returns-clause-call : goal.returns-clause-call
returns-clause-call c =
    called_transmit _ _ c.deref_mut.result.now _ c.args.app (buffer_of c.args.buffer.now) c.take-lent.result (c.in-Some.ensures.taken ∙ ap Some (sym c.deref_mut.ensures.value)) c.open.ensures refl c.take-lent.ensures
    c.args.counts c.transmit_buffer-answer.result _ c.code_of_call.ensures c.transmit_buffer-answer.ensures.unasked c.transmit_buffer-answer.ensures.nothing c.transmit_buffer-answer.ensures.does
    c.transmit_buffer-answer.ensures.others c.transmit_buffer-answer.ensures.views

pub returns-clause-stays : goal.returns-clause-stays
returns-clause-stays c = λ some.
    let stays = refused c.transmit_buffer-answer.result _ c.code_of_call.ensures some (c.transmit_buffer-answer.new.buffer ≡ c.take-lent.result) (StaysOut (bag_of c.deref_mut.result.now.bus c.args.app) c.take-lent.result c.transmit_buffer-answer.new.buffer) (stays_same c.deref_mut.result.now c.args.app c.take-lent.result c.transmit_buffer-answer.new.buffer) c.transmit_buffer-answer.ensures.buffer_unasked c.transmit_buffer-answer.ensures.buffer_refused in
    stays_one _ c.deref_mut.result.now c.args.app (buffer_of c.args.buffer.now) c.take-lent.result c.transmit_buffer-answer.new.buffer _ (c.in-Some.ensures.taken ∙ ap Some (sym c.deref_mut.ensures.value)) c.take-lent.ensures (one_same c.args.buffer.now.number c.args.buffer.now.lent.bytes) c.of.ensures stays

pub returns-clause-gone : goal.returns-clause-gone
returns-clause-gone c = λ zero.
    let it = accepted c.transmit_buffer-answer.result _ c.code_of_call.ensures zero (λ x. c.transmit_buffer-answer.new.buffer ≡ no_buffer) c.transmit_buffer-answer.ensures.gone in
    gone_one c.transmit_buffer-answer.new.buffer _ c.of.ensures it.2
