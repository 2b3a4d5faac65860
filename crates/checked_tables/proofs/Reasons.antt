-- Whether the tables are asked, test by test.
use Rattle.std.proofs.Common.{◌≡◌, ℕ, ◌<◌, ◌≤◌, ◌&&◌, not, Bool, true, false, cond, leb, Option, Some, None, Result, Ok, Err, refl, ap, sym, ◌∙◌, arith}
use Rattle.std.specs.Prelude.{OnErr}
use Rattle.std.specs.Result.{result_err}
use Rattle.std.proofs.lemmas.Bool.Decides.{nat_tests}
use Rattle.checked_tables.specs.declared.refusal.Refusal.{Refusal}
use Rattle.checked_tables.specs.declared.refusal.Refusal.TheVariants.{NoApplication, TooLong, NotActive}
use Rattle.checked_tables.specs.Asked.{reason_if}

-- What a `?` hands on. --

pub handed_on : {T : Type 0} (r : Result T Refusal) (e : Refusal) (why : Option Refusal) → result_err r ≡ why → r ≡ Err e → Some e ≡ why
handed_on {T} r e why is was = let told : Result T Refusal → Option Refusal = λ x. result_err x in sym (ap told was) ∙ is

pub none_handed : {T : Type 0} (r : Result T Refusal) (x : T) (why : Option Refusal) → result_err r ≡ why → r ≡ Ok x → None ≡ why
none_handed {T} r x why is was = let told : Result T Refusal → Option Refusal = λ y. result_err y in sym (ap told was) ∙ is

pub on_err : {T E A B : Type 0} (r : Result T E) → (A → B) → OnErr r A → OnErr r B
on_err (Ok x) to held = held
on_err (Err e) to held = to held

-- The chain of reasons. --

abbrev pub chain : Bool → Bool → Bool → Option Refusal → Option Refusal
chain is_app within active others = reason_if (not is_app) NoApplication (reason_if (not within) TooLong (reason_if (not active) NotActive others))

-- whether there is such an application
abbrev pub app_cause : Bool → Option Refusal
app_cause is_app = cond {A = Option Refusal} is_app None (Some NoApplication)

pub is_app : (app apps : ℕ) → 1 ≤ app → app ≤ apps → (leb 1 app && leb app apps) ≡ true
is_app app apps first known = ap (λ b. b && leb app apps) one ∙ there
  where
    one : leb 1 app ≡ true
    one = grind (arith, nat_tests)

    there : leb app apps ≡ true
    there = grind (arith, nat_tests)

pub no_app_past : (app apps : ℕ) → apps < app → (leb 1 app && leb app apps) ≡ false
no_app_past app apps past = by_first (leb 1 app)
  where
    none : leb app apps ≡ false
    none = grind (arith, nat_tests)

    by_first : (b : Bool) → (b && leb app apps) ≡ false
    by_first true = none
    by_first false = refl

-- an application has a number from 1 to 16
pub no_app_outside : (app apps : ℕ) → apps ≤ 16 → ((1 ≤ app) × (app ≤ 16) → ⊥) → (leb 1 app && leb app apps) ≡ false
no_app_outside app apps few outside = by_tests (leb 1 app) (leb app apps) refl refl
  where
    from : leb 1 app ≡ true → 1 ≤ app
    from is = grind (arith, nat_tests)

    to : leb app apps ≡ true → app ≤ apps
    to is = grind (arith, nat_tests)

    by_tests : (a b : Bool) → leb 1 app ≡ a → leb app apps ≡ b → (a && b) ≡ false
    by_tests true true is there = absurd (outside (from is, omega (arith, few, to there)))
    by_tests true false is there = refl
    by_tests false b is there = refl

pub of_no_app : (a w o : Bool) (others : Option Refusal) (e : Refusal) → Some e ≡ app_cause a → Some e ≡ chain a w o others
of_no_app true w o others e never = absurd (cc (never))
of_no_app false w o others e is = is

pub of_app : (a : Bool) → None ≡ app_cause a → a ≡ true
of_app true is = refl
of_app false never = absurd (cc (never))

module _ (a w o : Bool) (others : Option Refusal) (app : a ≡ true) where
  pub of_long : w ≡ false → Some TooLong ≡ chain a w o others
  of_long long = sym (ap (λ b. chain b w o others) app ∙ ap (λ b. chain true b o others) long)

  pub of_idle : w ≡ true → o ≡ false → Some NotActive ≡ chain a w o others
  of_idle within idle = sym (ap (λ b. chain b w o others) app ∙ ap (λ b. chain true b o others) within ∙ ap (λ b. chain true true b others) idle)

  pub of_rest : w ≡ true → o ≡ true → others ≡ chain a w o others
  of_rest within active = sym (ap (λ b. chain b w o others) app ∙ ap (λ b. chain true b o others) within ∙ ap (λ b. chain true true b others) active)

-- a reason that comes first comes before another
pub before_more : (a w o : Bool) (e : Refusal) (more : Option Refusal) → Some e ≡ chain a w o None → Some e ≡ chain a w o more
before_more true true true e more never = absurd (cc (never))
before_more true true false e more is = is
before_more true false o e more is = is
before_more false w o e more is = is

-- and if none comes, the others do
pub then_more : (a w o : Bool) (more : Option Refusal) → None ≡ chain a w o None → more ≡ chain a w o more
then_more true true true more is = refl
then_more true true false more never = absurd (cc (never))
then_more true false o more never = absurd (cc (never))
then_more false w o more never = absurd (cc (never))
