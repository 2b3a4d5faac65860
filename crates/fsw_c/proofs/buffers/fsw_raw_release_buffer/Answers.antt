use Rattle.std.proofs.Common.{◌≡◌, Some, refl, ap, sym, ◌∙◌}
use Rattle.fsw_c.specs.Buffers.{buffer_of}
use Rattle.checked_bus.specs.Box.{bag_of}
use Rattle.checked_bus.specs.Lent.{no_buffer, StaysOut}
use Rattle.fsw_c.proofs.BufferSteps.{called_release, accepted, refused, stays_same, stays_one, one_same, gone_one}
use Rattle.fsw_c.proofs.buffers.fsw_raw_release_buffer.Goals as goal

pub returns-clause-call : goal.returns-clause-call
returns-clause-call c =
    called_release _ _ c.deref_mut.result.now _ c.args.app (buffer_of c.args.buffer.now) c.take-lent.result (c.in-Some.ensures.taken ∙ ap Some (sym c.deref_mut.ensures.value)) c.open.ensures refl c.take-lent.ensures
    c.release-answer.result _ c.code_of_call.ensures c.release-answer.ensures.unasked c.release-answer.ensures.nothing c.release-answer.ensures.does
    c.release-answer.ensures.others c.release-answer.ensures.views

pub returns-clause-stays : goal.returns-clause-stays
returns-clause-stays c = λ some.
    let stays = refused c.release-answer.result _ c.code_of_call.ensures some (c.release-answer.new.buffer ≡ c.take-lent.result) (StaysOut (bag_of c.deref_mut.result.now.bus c.args.app) c.take-lent.result c.release-answer.new.buffer) (stays_same c.deref_mut.result.now c.args.app c.take-lent.result c.release-answer.new.buffer) c.release-answer.ensures.buffer_unasked c.release-answer.ensures.buffer_refused in
    stays_one _ c.deref_mut.result.now c.args.app (buffer_of c.args.buffer.now) c.take-lent.result c.release-answer.new.buffer _ (c.in-Some.ensures.taken ∙ ap Some (sym c.deref_mut.ensures.value)) c.take-lent.ensures (one_same c.args.buffer.now.number c.args.buffer.now.lent.bytes) c.of.ensures stays

pub returns-clause-gone : goal.returns-clause-gone
returns-clause-gone c = λ zero.
    let it = accepted c.release-answer.result _ c.code_of_call.ensures zero (λ x. c.release-answer.new.buffer ≡ no_buffer) c.release-answer.ensures.gone in
    gone_one c.release-answer.new.buffer _ c.of.ensures it.2
