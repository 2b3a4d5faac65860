use Rattle.std.proofs.Common.{◌≡◌, ℕ, Some, refl, ap, sym, ◌∙◌, subst}
use Rattle.bus_words.specs.declared.calls.BusAnswer.TheVariants.{Number}
use Rattle.bus_words.specs.declared.history.Call.TheVariants.{Allocate}
use Rattle.bus_core.specs.Core.{Acts}
use Rattle.checked_bus.specs.Box.{bag_of}
use Rattle.checked_bus.specs.Lent.{Lent, IsGivenOut}
use Rattle.fsw_core.specs.declared.Core.{Core}
use Rattle.fsw_c.specs.Buffers.{buffer_of}
use Rattle.fsw_c.specs.Lent.{one_of}
use Rattle.fsw_c.proofs.BufferSteps.{accepted, refused, at_core, one_same, given_one, given_with, called_allocate, allocated}
use Rattle.fsw_c.proofs.Values.{at-cores}
use Rattle.fsw_c.proofs.buffers.fsw_raw_allocate_buffer.Goals as goal

pub returns-clause-call : goal.returns-clause-call
returns-clause-call c =
    called_allocate _ _ c.deref_mut.result.now _ c.args.app (buffer_of c.args.buffer.now) c.take-lent.result (c.in-Some.ensures.taken ∙ ap Some (sym c.deref_mut.ensures.value)) c.open.ensures refl c.take-lent.ensures
    c.args.size c.allocate-answer.result _ c.code_of_call.ensures c.allocate-answer.ensures.unasked c.allocate-answer.ensures.nothing c.allocate-answer.ensures.does c.allocate-answer.ensures.spent c.allocate-answer.ensures.refused
    c.allocate-answer.ensures.others c.allocate-answer.ensures.views

pub returns-clause-kept : goal.returns-clause-kept
returns-clause-kept c = λ some.
    let stays = refused c.allocate-answer.result _ c.code_of_call.ensures some (c.allocate-answer.new.buffer ≡ c.take-lent.result) (c.allocate-answer.new.buffer ≡ c.take-lent.result) (λ same. same) c.allocate-answer.ensures.buffer_unasked c.allocate-answer.ensures.buffer_refused in
    c.of.ensures ∙ ap one_of (stays ∙ c.take-lent.ensures) ∙ one_same c.args.buffer.now.number c.args.buffer.now.lent.bytes

pub returns-clause-answer : goal.returns-clause-answer
returns-clause-answer c = λ zero.
    let new : Core = record { bus = c.allocate-answer.new.self; tables = c.deref_mut.result.now.tables } in
    let it = accepted c.allocate-answer.result _ c.code_of_call.ensures zero (λ number. IsGivenOut (bag_of c.allocate-answer.new.self c.args.app) c.args.size number c.allocate-answer.new.buffer) c.allocate-answer.ensures.given in
    let put = given_one new c.args.app c.args.size it.0 c.allocate-answer.new.buffer (buffer_of c.of.result) c.of.ensures it.2 in
    let number = ap (λ (b : Lent). b.number) put ∙ it.2.number_is in
    at-cores _ _ c.deref_mut.result.now new (c.in-Some.ensures.taken ∙ ap Some (sym c.deref_mut.ensures.value)) c.open.ensures (λ (o n : Core). Acts o.bus.core n.bus.core c.args.app (Allocate c.args.size) (Number (buffer_of c.of.result).number))
    (subst (λ (k : ℕ). Acts c.deref_mut.result.now.bus.core c.allocate-answer.new.self.core c.args.app (Allocate c.args.size) (Number k)) (sym number)
    (allocated _ _ c.deref_mut.result.now new c.args.app (buffer_of c.args.buffer.now) c.take-lent.result (c.in-Some.ensures.taken ∙ ap Some (sym c.deref_mut.ensures.value)) c.open.ensures refl c.take-lent.ensures
    c.args.size c.allocate-answer.result it.0 it.1 c.allocate-answer.ensures.does c.allocate-answer.ensures.spent))

pub returns-clause-given : goal.returns-clause-given
returns-clause-given c = λ zero.
    let new : Core = record { bus = c.allocate-answer.new.self; tables = c.deref_mut.result.now.tables } in
    let it = accepted c.allocate-answer.result _ c.code_of_call.ensures zero (λ number. IsGivenOut (bag_of c.allocate-answer.new.self c.args.app) c.args.size number c.allocate-answer.new.buffer) c.allocate-answer.ensures.given in
    let put = given_one new c.args.app c.args.size it.0 c.allocate-answer.new.buffer (buffer_of c.of.result) c.of.ensures it.2 in
    at_core (λ (n : Core). IsGivenOut (bag_of n.bus c.args.app) c.args.size (buffer_of c.of.result).number (buffer_of c.of.result)) _ new c.open.ensures
    (given_with new c.args.app c.args.size it.0 c.allocate-answer.new.buffer (buffer_of c.of.result) put it.2)
