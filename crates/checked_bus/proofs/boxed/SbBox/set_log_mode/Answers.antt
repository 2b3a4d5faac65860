use Rattle.std.proofs.Common.{sym, subst, arith}
use Rattle.std.proofs.lemmas.Result.{err_from_is_err_and}
use Rattle.bus_words.specs.declared.history.Call.TheVariants.{LogMode}
use Rattle.bus_core.specs.Core.{MayAct}
use Rattle.checked_bus.specs.Box.{Boxed}
use Rattle.checked_bus.proofs.Reasons.{handed_on, none_handed, first_reason, next_reason, of_hit, of_miss, over, not_over, may-mode}
use Rattle.checked_bus.proofs.Kept.{kept-bags}
use Rattle.checked_bus.proofs.Apps.{apps-acts}
use Rattle.checked_bus.proofs.boxed.SbBox.set_log_mode.Goals as goal

pub invariant_of-self : goal.invariant_of-self
invariant_of-self c =
    kept-bags c.self.inside.core c.set_log_mode.new.self c.self.inside.bags.items c.self.invariant (apps-acts _ _ _ _ _ c.set_log_mode.ensures.does) c.set_log_mode.ensures.bags

pub set_log_mode-requires : goal.set_log_mode-requires
set_log_mode-requires c = record {
  may = subst (λ (box : Boxed). MayAct box.core c.in_ok-caller.caller (LogMode c.args.mode)) (sym c.self.view_is)
      (may-mode c.args.self.now.core c.in_ok-caller.caller c.args.mode (omega (arith, c.if-mode-gt1.false)) c.in_ok-caller.ensures.may);
}

pub returns-in_err-caller-clause-unasked : goal.returns-in_err-caller-clause-unasked
returns-in_err-caller-clause-unasked c =
    let p = err_from_is_err_and c.from_residual.result c.from_residual.ensures.1 in
    rw (p.1, p.2) (first_reason _ _ c.in_err-caller.field-0.0 (handed_on c.caller_for.result c.in_err-caller.field-0.0 _ c.caller_for.ensures.why c.in_err-caller.was))

pub returns-then-mode-gt1-clause-unasked : goal.returns-then-mode-gt1-clause-unasked
returns-then-mode-gt1-clause-unasked c =
    next_reason _ _ _ (none_handed c.caller_for.result c.in_ok-caller.caller _ c.caller_for.ensures.why c.in_ok-caller.was) (of_hit _ _ (over 1 c.args.mode (omega (arith, c.if-mode-gt1.true))))

pub returns-clause-unasked : goal.returns-clause-unasked
returns-clause-unasked c =
    next_reason _ _ _ (none_handed c.caller_for.result c.in_ok-caller.caller _ c.caller_for.ensures.why c.in_ok-caller.was) (of_miss _ _ (not_over 1 c.args.mode (omega (arith, c.if-mode-gt1.false))))
