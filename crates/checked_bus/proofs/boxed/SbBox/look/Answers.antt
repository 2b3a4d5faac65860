use Rattle.std.proofs.Common.{ap, true, ℕ, ◌∙◌, ◌≡◌}
use Rattle.std.proofs.lemmas.Result.{err_from_is_err_and}
use Rattle.bus_words.specs.declared.history.Call.TheVariants.{Look}
use Rattle.bus_words.specs.Bus.{standing_of, waited_on}
use Rattle.bus_words.specs.Machine.{may_call}
use Rattle.checked_bus.specs.Asked.{is_application, unasked}
use Rattle.lend_block.specs.Loan.{LentBytes}
use Rattle.buf_desc.specs.Held.{Holding}
use Rattle.checked_bus.proofs.Apps.{apps-acts}
use Rattle.checked_bus.proofs.Reasons.{handed_on, none_handed, of_no_app}
use Rattle.checked_bus.proofs.Kept.{placed, own-bag, kept-own, others-stay, own-stays}
use Rattle.checked_bus.proofs.boxed.SbBox.look.Goals as goal

pub look-answer-requires-clause-bag : goal.look-answer-requires-clause-bag
look-answer-requires-clause-bag c =
    let here = placed c.self.inside.core c.self.inside.bags.items c.args.self.now c.args.app c.in_ok-caller.caller c.get.result c.self.invariant c.self.view_is c.get.ensures.value c.get.ensures.first c.in_ok-caller.ensures.value c.in_ok-caller.ensures.may.known in
    own-bag here c.index_mut-bag.result.now c.index_mut-bag.ensures.value

pub invariant_of-self : goal.invariant_of-self
invariant_of-self c =
    let here = placed c.self.inside.core c.self.inside.bags.items c.args.self.now c.args.app c.in_ok-caller.caller c.get.result c.self.invariant c.self.view_is c.get.ensures.value c.get.ensures.first c.in_ok-caller.ensures.value c.in_ok-caller.ensures.may.known in
    kept-own here c.look-answer.new.core c.look-answer.new.self (apps-acts _ _ _ _ _ c.look-answer.ensures.does) c.look-answer.ensures.other_bags c.look-answer.ensures.bag

pub returns-clause-others : goal.returns-clause-others
returns-clause-others c =
    let here = placed c.self.inside.core c.self.inside.bags.items c.args.self.now c.args.app c.in_ok-caller.caller c.get.result c.self.invariant c.self.view_is c.get.ensures.value c.get.ensures.first c.in_ok-caller.ensures.value c.in_ok-caller.ensures.may.known in
    others-stay here c.look-answer.new.core c.look-answer.new.self

pub returns-clause-buffers : goal.returns-clause-buffers
returns-clause-buffers c =
    let here = placed c.self.inside.core c.self.inside.bags.items c.args.self.now c.args.app c.in_ok-caller.caller c.get.result c.self.invariant c.self.view_is c.get.ensures.value c.get.ensures.first c.in_ok-caller.ensures.value c.in_ok-caller.ensures.may.known in
    own-stays here (λ (before after : Holding LentBytes). after ≡ record before { views = after.views }) c.look-answer.new.core c.index_mut-bag.result.now c.look-answer.new.self c.index_mut-bag.ensures.value c.look-answer.ensures.buffers

pub returns-in_err-pipe-clause-unasked : goal.returns-in_err-pipe-clause-unasked
returns-in_err-pipe-clause-unasked c =
    let p = err_from_is_err_and c.from_residual.result c.from_residual.ensures.1 in
    let core = c.args.self.now.core in
    let app = c.args.app in
    let standing = standing_of core.whole.bus app in
    rw (p.1, p.2) (of_no_app (is_application core app) true (may_call standing (Look (waited_on standing))) true c.in_err-pipe.field-0.0
    (handed_on c.pipe_waited_on.result c.in_err-pipe.field-0.0 _ c.pipe_waited_on.ensures.why c.in_err-pipe.was))

pub returns-in_err-caller-clause-unasked : goal.returns-in_err-caller-clause-unasked
returns-in_err-caller-clause-unasked c =
    let p = err_from_is_err_and c.from_residual-in_err-caller.result c.from_residual-in_err-caller.ensures.1 in
    let core = c.args.self.now.core in
    rw (p.1, p.2) (handed_on c.caller_for.result c.in_err-caller.field-0.0 _ c.caller_for.ensures.why c.in_err-caller.was ∙ ap (λ (pipe : ℕ). unasked core c.args.app (Look pipe)) c.in_ok-pipe.ensures.pipe)

pub returns-clause-unasked : goal.returns-clause-unasked
returns-clause-unasked c =
    let core = c.args.self.now.core in
    none_handed c.caller_for.result c.in_ok-caller.caller _ c.caller_for.ensures.why c.in_ok-caller.was ∙ ap (λ (pipe : ℕ). unasked core c.args.app (Look pipe)) c.in_ok-pipe.ensures.pipe
