use Rattle.std.proofs.Common.{◌≡◌, ◌∙◌, ℕ, ap, sym}
use Rattle.std.proofs.lemmas.Result.{err_from_is_err_and}
use Rattle.std.specs.Prelude.{OnErr}
use Rattle.lend_block.specs.Loan.{LentBytes}
use Rattle.buf_desc.specs.Held.{Holding}
use Rattle.bus_core.specs.Bags.{KeepsBuffers}
use Rattle.checked_bus.proofs.Apps.{apps-acts}
use Rattle.checked_bus.specs.Box.{bag_of}
use Rattle.checked_bus.specs.Lent.{is_misfit}
use Rattle.checked_bus.proofs.Reasons.{handed_on, none_handed, first_reason, next_reason, of_hit, of_miss}
use Rattle.checked_bus.proofs.Kept.{placed, own-bag, kept-own, others-stay, own-stays}
use Rattle.checked_bus.proofs.boxed.SbBox.release.Goals as goal

pub release-requires-clause-bag : goal.release-requires-clause-bag
release-requires-clause-bag g c =
    let here = placed c.self.inside.core c.self.inside.bags.items c.args.self.now c.args.app c.in_ok-caller.caller c.get.result c.self.invariant c.self.view_is c.get.ensures.value c.get.ensures.first c.in_ok-caller.ensures.value (c.in_ok-caller.ensures.may_release 0).known in
    own-bag here c.index_mut-bag.result.now c.index_mut-bag.ensures.value

pub invariant_of-self : goal.invariant_of-self
invariant_of-self g c =
    let here = placed c.self.inside.core c.self.inside.bags.items c.args.self.now c.args.app c.in_ok-caller.caller c.get.result c.self.invariant c.self.view_is c.get.ensures.value c.get.ensures.first c.in_ok-caller.ensures.value (c.in_ok-caller.ensures.may_release 0).known in
    kept-own here c.release.new.core c.release.new.self (apps-acts _ _ _ _ _ c.release.ensures.does) c.release.ensures.other_bags c.release.ensures.bag

pub returns-clause-others : goal.returns-clause-others
returns-clause-others g c =
    let here = placed c.self.inside.core c.self.inside.bags.items c.args.self.now c.args.app c.in_ok-caller.caller c.get.result c.self.invariant c.self.view_is c.get.ensures.value c.get.ensures.first c.in_ok-caller.ensures.value (c.in_ok-caller.ensures.may_release 0).known in
    others-stay here c.release.new.core c.release.new.self

pub returns-clause-views : goal.returns-clause-views
returns-clause-views g c =
    let here = placed c.self.inside.core c.self.inside.bags.items c.args.self.now c.args.app c.in_ok-caller.caller c.get.result c.self.invariant c.self.view_is c.get.ensures.value c.get.ensures.first c.in_ok-caller.ensures.value (c.in_ok-caller.ensures.may_release 0).known in
    own-stays here (λ (before after : Holding LentBytes). after ≡ record before { buffers = after.buffers }) c.release.new.core c.index_mut-bag.result.now c.release.new.self c.index_mut-bag.ensures.value c.release.ensures.views

pub returns-clause-kept : goal.returns-clause-kept
returns-clause-kept g c =
    let here = placed c.self.inside.core c.self.inside.bags.items c.args.self.now c.args.app c.in_ok-caller.caller c.get.result c.self.invariant c.self.view_is c.get.ensures.value c.get.ensures.first c.in_ok-caller.ensures.value (c.in_ok-caller.ensures.may_release 0).known in
    own-stays here (λ (before after : Holding LentBytes). KeepsBuffers before after c.args.buffer.now.number) c.release.new.core c.index_mut-bag.result.now c.release.new.self c.index_mut-bag.ensures.value c.release.ensures.buffers

pub returns-clause-bag_refused : goal.returns-clause-bag_refused
returns-clause-bag_refused g c =
    let here = placed c.self.inside.core c.self.inside.bags.items c.args.self.now c.args.app c.in_ok-caller.caller c.get.result c.self.invariant c.self.view_is c.get.ensures.value c.get.ensures.first c.in_ok-caller.ensures.value (c.in_ok-caller.ensures.may_release 0).known in
    own-stays here (λ (before after : Holding LentBytes). OnErr c.release.result (after ≡ before)) c.release.new.core c.index_mut-bag.result.now c.release.new.self c.index_mut-bag.ensures.value c.release.ensures.bag_refused

pub returns-in_err-caller-clause-unasked : goal.returns-in_err-caller-clause-unasked
returns-in_err-caller-clause-unasked g c =
    let p = err_from_is_err_and c.from_residual.result c.from_residual.ensures.1 in
    rw (p.1, p.2) (first_reason _ _ c.in_err-caller.field-0.0 (handed_on c.active_caller.result c.in_err-caller.field-0.0 _ (c.active_caller.ensures.release c.args.buffer.now.number) c.in_err-caller.was))

pub returns-then-is_misfit-clause-unasked : goal.returns-then-is_misfit-clause-unasked
returns-then-is_misfit-clause-unasked g c =
    let misfit = ap (λ (who : ℕ). is_misfit (bag_of c.args.self.now who) c.args.buffer.now) (sym c.in_ok-caller.ensures.value) ∙ sym c.is_misfit.ensures in
    next_reason _ _ _ (none_handed c.active_caller.result c.in_ok-caller.caller _ (c.active_caller.ensures.release c.args.buffer.now.number) c.in_ok-caller.was) (of_hit _ _ (misfit ∙ c.if-is_misfit.true))

pub returns-clause-unasked : goal.returns-clause-unasked
returns-clause-unasked g c =
    let misfit = ap (λ (who : ℕ). is_misfit (bag_of c.args.self.now who) c.args.buffer.now) (sym c.in_ok-caller.ensures.value) ∙ sym c.is_misfit.ensures in
    next_reason _ _ _ (none_handed c.active_caller.result c.in_ok-caller.caller _ (c.active_caller.ensures.release c.args.buffer.now.number) c.in_ok-caller.was) (of_miss _ _ (misfit ∙ c.if-is_misfit.false))
