use Rattle.std.proofs.Common.{◌≡◌}
use Rattle.std.proofs.lemmas.Result.{err_from_is_err_and}
use Rattle.lend_block.specs.Loan.{LentBytes}
use Rattle.buf_desc.specs.Held.{Holding}
use Rattle.checked_bus.proofs.Apps.{apps-acts}
use Rattle.checked_bus.proofs.Reasons.{handed_on, none_handed}
use Rattle.checked_bus.proofs.Kept.{placed, own-bag, kept-own, others-stay, own-stays}
use Rattle.checked_bus.proofs.boxed.SbBox.pend.Goals as goal

pub pend-requires-clause-bag : goal.pend-requires-clause-bag
pend-requires-clause-bag g c =
    let here = placed c.self.inside.core c.self.inside.bags.items c.args.self.now c.args.app c.in_ok-caller.caller c.get.result c.self.invariant c.self.view_is c.get.ensures.value c.get.ensures.first c.in_ok-caller.ensures.value c.in_ok-caller.ensures.may.known in
    own-bag here c.index_mut-bag.result.now c.index_mut-bag.ensures.value

pub invariant_of-self : goal.invariant_of-self
invariant_of-self g c =
    let here = placed c.self.inside.core c.self.inside.bags.items c.args.self.now c.args.app c.in_ok-caller.caller c.get.result c.self.invariant c.self.view_is c.get.ensures.value c.get.ensures.first c.in_ok-caller.ensures.value c.in_ok-caller.ensures.may.known in
    kept-own here c.pend.new.core c.pend.new.self (apps-acts _ _ _ _ _ c.pend.ensures.does) c.pend.ensures.other_bags c.pend.ensures.bag

pub returns-clause-others : goal.returns-clause-others
returns-clause-others g c =
    let here = placed c.self.inside.core c.self.inside.bags.items c.args.self.now c.args.app c.in_ok-caller.caller c.get.result c.self.invariant c.self.view_is c.get.ensures.value c.get.ensures.first c.in_ok-caller.ensures.value c.in_ok-caller.ensures.may.known in
    others-stay here c.pend.new.core c.pend.new.self

pub returns-clause-buffers : goal.returns-clause-buffers
returns-clause-buffers g c =
    let here = placed c.self.inside.core c.self.inside.bags.items c.args.self.now c.args.app c.in_ok-caller.caller c.get.result c.self.invariant c.self.view_is c.get.ensures.value c.get.ensures.first c.in_ok-caller.ensures.value c.in_ok-caller.ensures.may.known in
    own-stays here (λ (before after : Holding LentBytes). after ≡ record before { views = after.views }) c.pend.new.core c.index_mut-bag.result.now c.pend.new.self c.index_mut-bag.ensures.value c.pend.ensures.buffers

pub returns-in_err-caller-clause-unasked : goal.returns-in_err-caller-clause-unasked
returns-in_err-caller-clause-unasked g c =
    let p = err_from_is_err_and c.from_residual.result c.from_residual.ensures.1 in
    rw (p.1, p.2) (handed_on c.caller_for.result c.in_err-caller.field-0.0 _ c.caller_for.ensures.why c.in_err-caller.was)

pub returns-clause-unasked : goal.returns-clause-unasked
returns-clause-unasked g c = none_handed c.caller_for.result c.in_ok-caller.caller _ c.caller_for.ensures.why c.in_ok-caller.was
