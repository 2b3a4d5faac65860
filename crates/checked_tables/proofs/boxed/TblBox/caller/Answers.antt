use Rattle.std.proofs.Common.{◌≤◌, ◌≡◌, true≢false, Some, None, IsSome, refl, ap, sym, subst, arith}
use Rattle.checked_tables.specs.declared.refusal.Refusal.TheVariants.{NoApplication}
use Rattle.checked_tables.specs.Asked.{is_application}
use Rattle.checked_tables.specs.Box.{Boxed, apps_in}
use Rattle.checked_tables.proofs.Reasons.{app_cause, is_app, no_app_past, no_app_outside}
use Rattle.checked_tables.proofs.boxed.TblBox.caller.Goals as goal

pub returns-in_default-clause-why : goal.returns-in_default-clause-why
returns-in_default-clause-why c =
    let apps = apps_in c.self.inside.core in
    let outside : (1 ≤ c.args.app) × (c.args.app ≤ 16) → ⊥ = λ within. true≢false (sym (subst IsSome c.in_default.is (c.try_new.ensures.valid.1 within))) in
    subst (λ (box : Boxed). Some NoApplication ≡ app_cause (is_application box.core c.args.app)) c.self.view_is
    (sym (ap app_cause (no_app_outside c.args.app apps c.self.invariant.few outside)))

pub returns-then-app-served-clause-why : goal.returns-then-app-served-clause-why
returns-then-app-served-clause-why c =
    subst (λ (box : Boxed). Some NoApplication ≡ app_cause (is_application box.core c.args.app)) c.self.view_is
    (sym (ap app_cause (no_app_past c.args.app (apps_in c.self.inside.core) (omega (arith, c.if-app-served.true, c.len-served.ensures, c.self.invariant.counted)))))

pub returns-clause-why : goal.returns-clause-why
returns-clause-why c =
    let first : 1 ≤ c.args.app = (c.try_new.ensures.valid.0 (subst IsSome (sym c.in-Some.is) refl)).0 in
    subst (λ (box : Boxed). None ≡ app_cause (is_application box.core c.args.app)) c.self.view_is
    (sym (ap app_cause (is_app c.args.app (apps_in c.self.inside.core) first (omega (arith, c.if-app-served.false, c.len-served.ensures, c.self.invariant.counted)))))
