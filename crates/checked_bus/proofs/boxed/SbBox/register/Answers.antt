use Rattle.std.proofs.Common.{not, length, Some, None, IsSome, true≢false, sym, refl, subst, arith}
use Rattle.std.specs.Prelude.{nat_lt}
use Rattle.std.proofs.lemmas.Result.{err_from_is_err_and}
use Rattle.bus_words.specs.declared.history.Call.TheVariants.{Register}
use Rattle.bus_words.specs.Machine.{refused_if}
use Rattle.fsw_base.specs.Events.{are_filters}
use Rattle.checked_bus.specs.declared.refusal.Refusal.TheVariants.{SameFilter}
use Rattle.checked_bus.specs.Asked.{is_application, unasked}
use Rattle.checked_bus.proofs.Apps.{apps-acts}
use Rattle.checked_bus.proofs.Kept.{kept-bags}
use Rattle.checked_bus.proofs.Reasons.{handed_on, none_handed, of_app, first_reason, next_reason, of_test, of_pass, not_over, not_true, unserved, few_enough}
use Rattle.checked_bus.proofs.boxed.SbBox.register.Goals as goal

pub invariant_of-self : goal.invariant_of-self
invariant_of-self c =
    kept-bags c.self.inside.core c.evs_register.new.self c.self.inside.bags.items c.self.invariant (apps-acts _ _ _ _ _ c.evs_register.ensures.does) c.evs_register.ensures.bags

pub returns-in_err-caller-clause-unasked : goal.returns-in_err-caller-clause-unasked
returns-in_err-caller-clause-unasked c =
    let p = err_from_is_err_and c.from_residual.result c.from_residual.ensures.1 in
    let core = c.args.self.now.core in
    let app = is_application core c.args.app in
    let many = nat_lt 8 (length c.args.filters.now) in
    let first = unasked core c.args.app (Register c.args.filters.now) in
    let more = refused_if (not (are_filters c.args.filters.now)) SameFilter None in
    rw (p.1, p.2) (unserved app many first more c.in_err-caller.field-0.0 (handed_on c.caller.result c.in_err-caller.field-0.0 _ c.caller.ensures.why c.in_err-caller.was))

pub returns-in_err-caller-2-clause-unasked : goal.returns-in_err-caller-2-clause-unasked
returns-in_err-caller-2-clause-unasked c =
    let p = err_from_is_err_and c.from_residual-in_err-caller-2.result c.from_residual-in_err-caller-2.ensures.1 in
    let core = c.args.self.now.core in
    let app = is_application core c.args.app in
    let many = nat_lt 8 (length c.args.filters.now) in
    let first = unasked core c.args.app (Register c.args.filters.now) in
    let more = refused_if (not (are_filters c.args.filters.now)) SameFilter None in
    let served = of_app app (none_handed c.caller.result c.in_ok-caller.field-0 _ c.caller.ensures.why c.in_ok-caller.was) in
    let few = not_over 8 (length c.args.filters.now) (omega (arith, c.if-filters-gt-MAX_FILTERS.false)) in
    rw (p.1, p.2) (few_enough app many first more (Some c.in_err-caller-2.field-0.0) served few
    (first_reason first more c.in_err-caller-2.field-0.0 (handed_on c.active_caller.result c.in_err-caller-2.field-0.0 _ (c.active_caller.ensures.register c.args.filters.now) c.in_err-caller-2.was)))

pub returns-in_default-clause-unasked : goal.returns-in_default-clause-unasked
returns-in_default-clause-unasked c =
    let core = c.args.self.now.core in
    let app = is_application core c.args.app in
    let many = nat_lt 8 (length c.args.filters.now) in
    let first = unasked core c.args.app (Register c.args.filters.now) in
    let more = refused_if (not (are_filters c.args.filters.now)) SameFilter None in
    let served = of_app app (none_handed c.caller.result c.in_ok-caller.field-0 _ c.caller.ensures.why c.in_ok-caller.was) in
    let few = not_over 8 (length c.args.filters.now) (omega (arith, c.if-filters-gt-MAX_FILTERS.false)) in
    let active = none_handed c.active_caller.result c.in_ok-caller-2.caller _ (c.active_caller.ensures.register c.args.filters.now) c.in_ok-caller-2.was in
    let doubled = not_true _ (λ fit. true≢false (sym (subst IsSome c.in_default.is (c.try_new.ensures.valid.1 fit)))) in
    few_enough app many first more (Some SameFilter) served few (next_reason first more (Some SameFilter) active (of_test _ _ doubled))

pub returns-clause-unasked : goal.returns-clause-unasked
returns-clause-unasked c =
    let core = c.args.self.now.core in
    let app = is_application core c.args.app in
    let many = nat_lt 8 (length c.args.filters.now) in
    let first = unasked core c.args.app (Register c.args.filters.now) in
    let more = refused_if (not (are_filters c.args.filters.now)) SameFilter None in
    let served = of_app app (none_handed c.caller.result c.in_ok-caller.field-0 _ c.caller.ensures.why c.in_ok-caller.was) in
    let few = not_over 8 (length c.args.filters.now) (omega (arith, c.if-filters-gt-MAX_FILTERS.false)) in
    let active = none_handed c.active_caller.result c.in_ok-caller-2.caller _ (c.active_caller.ensures.register c.args.filters.now) c.in_ok-caller-2.was in
    let fit = c.try_new.ensures.valid.0 (subst IsSome (sym c.in-Some.is) refl) in
    few_enough app many first more None served few (next_reason first more None active (of_pass _ _ fit))
