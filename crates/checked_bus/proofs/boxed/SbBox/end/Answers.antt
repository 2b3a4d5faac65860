use Rattle.std.proofs.Common.{[], ◌≡◌}
use Rattle.std.proofs.lemmas.Result.{err_from_is_err_and}
use Rattle.lend_block.specs.Loan.{LentBytes}
use Rattle.buf_desc.specs.Held.{Holding}
use Rattle.checked_bus.proofs.Apps.{apps-acts}
use Rattle.checked_bus.proofs.Reasons.{handed_on, none_handed}
use Rattle.checked_bus.proofs.Kept.{placed, own-bag, kept-own, others-stay, own-stays}
use Rattle.checked_bus.proofs.boxed.SbBox.end.Goals as goal

pub end-requires-clause-bag : goal.end-requires-clause-bag
end-requires-clause-bag g c =
    let here = placed c.self.inside.core c.self.inside.bags.items c.args.self.now c.args.app c.in_ok-caller.caller c.get.result c.self.invariant c.self.view_is c.get.ensures.value c.get.ensures.first c.in_ok-caller.ensures.value c.in_ok-caller.ensures.may.known in
    own-bag here c.index_mut-bag.result.now c.index_mut-bag.ensures.value

pub invariant_of-self : goal.invariant_of-self
invariant_of-self g c =
    let here = placed c.self.inside.core c.self.inside.bags.items c.args.self.now c.args.app c.in_ok-caller.caller c.get.result c.self.invariant c.self.view_is c.get.ensures.value c.get.ensures.first c.in_ok-caller.ensures.value c.in_ok-caller.ensures.may.known in
    kept-own here c.end.new.core c.end.new.self (apps-acts _ _ _ _ _ c.end.ensures.does) c.end.ensures.other_bags c.end.ensures.bag

pub returns-clause-others : goal.returns-clause-others
returns-clause-others g c =
    let here = placed c.self.inside.core c.self.inside.bags.items c.args.self.now c.args.app c.in_ok-caller.caller c.get.result c.self.invariant c.self.view_is c.get.ensures.value c.get.ensures.first c.in_ok-caller.ensures.value c.in_ok-caller.ensures.may.known in
    others-stay here c.end.new.core c.end.new.self

pub returns-clause-empty : goal.returns-clause-empty
returns-clause-empty g c =
    let here = placed c.self.inside.core c.self.inside.bags.items c.args.self.now c.args.app c.in_ok-caller.caller c.get.result c.self.invariant c.self.view_is c.get.ensures.value c.get.ensures.first c.in_ok-caller.ensures.value c.in_ok-caller.ensures.may.known in
    own-stays here (λ (before after : Holding LentBytes). after ≡ record before { views = []; buffers = [] }) c.end.new.core c.index_mut-bag.result.now c.end.new.self c.index_mut-bag.ensures.value c.end.ensures.empty

pub returns-in_err-caller-clause-unasked : goal.returns-in_err-caller-clause-unasked
returns-in_err-caller-clause-unasked g c =
    let p = err_from_is_err_and c.from_residual.result c.from_residual.ensures.1 in
    rw (p.1, p.2) (handed_on c.ending_caller.result c.in_err-caller.field-0.0 _ c.ending_caller.ensures.why c.in_err-caller.was)

pub returns-clause-unasked : goal.returns-clause-unasked
returns-clause-unasked g c = none_handed c.ending_caller.result c.in_ok-caller.caller _ c.ending_caller.ensures.why c.in_ok-caller.was
