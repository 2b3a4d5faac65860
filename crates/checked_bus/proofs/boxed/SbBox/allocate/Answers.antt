use Rattle.std.proofs.Common.{◌+◌, ap, length, refl, replicate, sym, ℕ, ◌∙◌, ◌≡◌}
use Rattle.std.proofs.lemmas.Result.{err_from_is_err_and}
use Rattle.std.specs.Prelude.{IfOk, OnErr, nat_lt}
use Rattle.buf_desc.specs.Held.{bytes_at}
use Rattle.checked_bus.specs.Box.{Boxed, bag_of}
use Rattle.lend_block.specs.Loan.{LentBytes}
use Rattle.buf_desc.specs.Held.{Holding}
use Rattle.bus_core.specs.Bags.{KeepsBuffers}
use Rattle.checked_bus.specs.declared.refusal.Refusal.TheVariants.{BufferOut}
use Rattle.checked_bus.proofs.Apps.{apps-numbered, each_given}
use Rattle.checked_bus.proofs.Given.{new_number}
use Rattle.checked_bus.proofs.LentSeats.{none_there}
use Rattle.checked_bus.proofs.Reasons.{handed_on, none_handed, first_reason, next_reason, of_later, of_test, of_pass}
use Rattle.checked_bus.proofs.Kept.{placed, own-bag, kept-own, others-stay, own-stays, bag-was, has_room}
use Rattle.checked_bus.proofs.boxed.SbBox.allocate.Goals as goal

pub allocate-requires-clause-bag : goal.allocate-requires-clause-bag
allocate-requires-clause-bag g c =
    let here = placed c.self.inside.core c.self.inside.bags.items c.args.self.now c.args.app c.in_ok-caller.caller c.get.result c.self.invariant c.self.view_is c.get.ensures.value c.get.ensures.first c.in_ok-caller.ensures.value c.in_ok-caller.ensures.may.known in
    own-bag here c.index_mut-bag.result.now c.index_mut-bag.ensures.value

pub invariant_of-self : goal.invariant_of-self
invariant_of-self g c =
    let here = placed c.self.inside.core c.self.inside.bags.items c.args.self.now c.args.app c.in_ok-caller.caller c.get.result c.self.invariant c.self.view_is c.get.ensures.value c.get.ensures.first c.in_ok-caller.ensures.value c.in_ok-caller.ensures.may.known in
    kept-own here c.allocate.new.core c.allocate.new.self (apps-numbered _ _ _ _ c.allocate.result _ c.allocate.ensures.does c.allocate.ensures.spent c.allocate.ensures.refused) c.allocate.ensures.other_bags c.allocate.ensures.bag

pub returns-clause-others : goal.returns-clause-others
returns-clause-others g c =
    let here = placed c.self.inside.core c.self.inside.bags.items c.args.self.now c.args.app c.in_ok-caller.caller c.get.result c.self.invariant c.self.view_is c.get.ensures.value c.get.ensures.first c.in_ok-caller.ensures.value c.in_ok-caller.ensures.may.known in
    others-stay here c.allocate.new.core c.allocate.new.self

pub returns-clause-views : goal.returns-clause-views
returns-clause-views g c =
    let here = placed c.self.inside.core c.self.inside.bags.items c.args.self.now c.args.app c.in_ok-caller.caller c.get.result c.self.invariant c.self.view_is c.get.ensures.value c.get.ensures.first c.in_ok-caller.ensures.value c.in_ok-caller.ensures.may.known in
    own-stays here (λ (before after : Holding LentBytes). after ≡ record before { buffers = after.buffers }) c.allocate.new.core c.index_mut-bag.result.now c.allocate.new.self c.index_mut-bag.ensures.value c.allocate.ensures.views

pub returns-clause-kept : goal.returns-clause-kept
returns-clause-kept g c =
    let here = placed c.self.inside.core c.self.inside.bags.items c.args.self.now c.args.app c.in_ok-caller.caller c.get.result c.self.invariant c.self.view_is c.get.ensures.value c.get.ensures.first c.in_ok-caller.ensures.value c.in_ok-caller.ensures.may.known in
    own-stays here (λ (before after : Holding LentBytes). IfOk c.allocate.result (KeepsBuffers before after)) c.allocate.new.core c.index_mut-bag.result.now c.allocate.new.self c.index_mut-bag.ensures.value c.allocate.ensures.buffers

pub returns-clause-bag_refused : goal.returns-clause-bag_refused
returns-clause-bag_refused g c =
    let here = placed c.self.inside.core c.self.inside.bags.items c.args.self.now c.args.app c.in_ok-caller.caller c.get.result c.self.invariant c.self.view_is c.get.ensures.value c.get.ensures.first c.in_ok-caller.ensures.value c.in_ok-caller.ensures.may.known in
    own-stays here (λ (before after : Holding LentBytes). OnErr c.allocate.result (after ≡ before)) c.allocate.new.core c.index_mut-bag.result.now c.allocate.new.self c.index_mut-bag.ensures.value c.allocate.ensures.bag_refused

pub returns-clause-zeros : goal.returns-clause-zeros
returns-clause-zeros g c =
    let here = placed c.self.inside.core c.self.inside.bags.items c.args.self.now c.args.app c.in_ok-caller.caller c.get.result c.self.invariant c.self.view_is c.get.ensures.value c.get.ensures.first c.in_ok-caller.ensures.value c.in_ok-caller.ensures.may.known in
    own-stays here (λ (before after : Holding LentBytes). IfOk c.allocate.result (λ number. bytes_at after number ≡ replicate c.args.size 0)) c.allocate.new.core c.index_mut-bag.result.now c.allocate.new.self c.index_mut-bag.ensures.value c.allocate.ensures.zeros

pub allocate-requires-clause-room : goal.allocate-requires-clause-room
allocate-requires-clause-room g c =
    let own = placed c.self.inside.core c.self.inside.bags.items c.args.self.now c.in_ok-caller.caller c.in_ok-caller.caller c.get.result c.self.invariant c.self.view_is c.get.ensures.value c.get.ensures.first refl c.in_ok-caller.ensures.may.known in
    let was = sym (ap (λ (box : Boxed). bag_of box c.in_ok-caller.caller) c.self.view_is) ∙ bag-was own c.index_mut-bag.result.now c.index_mut-bag.ensures.value in
    has_room _ _ was (sym c.has_buffer_room.ensures ∙ c.if-not-has_buffer_room.false)

pub returns-in_err-caller-clause-unasked : goal.returns-in_err-caller-clause-unasked
returns-in_err-caller-clause-unasked g c =
    let p = err_from_is_err_and c.from_residual.result c.from_residual.ensures.1 in
    rw (p.1, p.2) (first_reason _ _ c.in_err-caller.field-0.0 (handed_on c.caller_for.result c.in_err-caller.field-0.0 _ c.caller_for.ensures.why c.in_err-caller.was))

pub returns-then-not-has_buffer_room-clause-unasked : goal.returns-then-not-has_buffer_room-clause-unasked
returns-then-not-has_buffer_room-clause-unasked g c =
    let room = ap (λ (who : ℕ). nat_lt (length (bag_of c.args.self.now who).buffers) (bag_of c.args.self.now who).buffer_room) (sym c.in_ok-caller.ensures.value) ∙ sym c.has_buffer_room.ensures in
    next_reason _ _ _ (none_handed c.caller_for.result c.in_ok-caller.caller _ c.caller_for.ensures.why c.in_ok-caller.was) (of_later _ BufferOut _ _ (sym c.is_out.ensures ∙ c.if-is_out.false) (of_test _ _ (room ∙ c.if-not-has_buffer_room.true)))

pub returns-clause-unasked : goal.returns-clause-unasked
returns-clause-unasked g c =
    let room = ap (λ (who : ℕ). nat_lt (length (bag_of c.args.self.now who).buffers) (bag_of c.args.self.now who).buffer_room) (sym c.in_ok-caller.ensures.value) ∙ sym c.has_buffer_room.ensures in
    next_reason _ _ _ (none_handed c.caller_for.result c.in_ok-caller.caller _ c.caller_for.ensures.why c.in_ok-caller.was) (of_later _ BufferOut _ _ (sym c.is_out.ensures ∙ c.if-is_out.false) (of_pass _ _ (room ∙ c.if-not-has_buffer_room.false)))

pub allocate-requires-clause-fresh : goal.allocate-requires-clause-fresh
allocate-requires-clause-fresh g c =
    let here = placed c.self.inside.core c.self.inside.bags.items c.args.self.now c.args.app c.in_ok-caller.caller c.get.result c.self.invariant c.self.view_is c.get.ensures.value c.get.ensures.first c.in_ok-caller.ensures.value c.in_ok-caller.ensures.may.known in
    none_there c.self.inside.core c.in_ok-caller.caller (c.self.inside.core.whole.bus.numbers_given + 1) c.index_mut-bag.result.now
    (new_number c.self.inside.core.whole.bus c.in_ok-caller.caller (each_given c.self.inside.core.whole.bus c.self.invariant.given)) (own-bag here c.index_mut-bag.result.now c.index_mut-bag.ensures.value)
