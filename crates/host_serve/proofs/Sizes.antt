-- How long a text is that is read as a script, or as a plan of two.
use Rattle.std.proofs.Common.{◌≡◌, ℕ, ◌≤◌, nat_lt, Bool, true, false, cond, List, length, Result, Ok, Err, refl, subst}
use Rattle.std.proofs.lemmas.Bool.{ltb-false}
use Rattle.fsw_base.specs.declared.script_faults.ScriptFault.{ScriptFault}
use Rattle.app_script.specs.Grammar.{◌>=>◌, progress_of, grammar}
use Rattle.app_script.specs.Script.{ScriptText}
use Rattle.bridge_plan.specs.Grammar.{plan_of}
use Rattle.bridge_plan.specs.Plan.{PlanText}

-- what was read, if it was, has this property
abbrev pub Yields : {A F : Type 0} → (A → Type 0) → Result A F → Type 0
Yields P (Ok x) = P x
Yields P (Err fault) = Unit {0}

-- one of two readings, by a test
pub either : {A F : Type 0} (P : A → Type 0) (b : Bool) (r s : Result A F) → (b ≡ true → Yields P r) → (b ≡ false → Yields P s) → Yields P (cond b r s)
either P true r s first other = first refl
either P false r s first other = other refl

-- a step over a whole script
pub go_on : {A B : Type 0} (Q : A → Type 0) (P : B → Type 0) (r : Result A ScriptFault) (f : A → Result B ScriptFault) →
    Yields Q r → ((x : A) → Q x → Yields P (f x)) → Yields P (r >=> f)
go_on Q P (Ok x) f first second = second x first
go_on Q P (Err fault) f first second = tt

any : {A F : Type 0} (P : Type 0) (r : Result A F) → P → Yields (λ x. P) r
any P (Ok x) p = p
any P (Err fault) p = tt

small-progress : (bytes : List ℕ) → Yields (λ s. length bytes ≤ 1048576) (progress_of bytes)
unfolding progress_of
small-progress bytes =
    either (λ s. length bytes ≤ 1048576) (nat_lt 1048576 (length bytes)) _ _ (λ long. tt)
    (λ short. any (length bytes ≤ 1048576) _ (ltb-false 1048576 (length bytes) short))

small-grammar : (bytes : List ℕ) → Yields (λ s. length bytes ≤ 1048576) (grammar bytes)
unfolding grammar
small-grammar bytes = go_on (λ s. length bytes ≤ 1048576) (λ s. length bytes ≤ 1048576) (progress_of bytes) _ (small-progress bytes) (λ s few. few)

-- a script that is read has at most so many bytes
pub length-grammar : (bytes : List ℕ) (script : ScriptText) → grammar bytes ≡ Ok script → length bytes ≤ 1048576
length-grammar bytes script form = subst (Yields (λ s. length bytes ≤ 1048576)) form (small-grammar bytes)

small-plan : (bytes : List ℕ) → Yields (λ p. length bytes ≤ 2097152) (plan_of bytes)
unfolding plan_of
small-plan bytes =
    either (λ p. length bytes ≤ 2097152) (nat_lt 2097152 (length bytes)) _ _ (λ long. tt)
    (λ short. any (length bytes ≤ 2097152) _ (ltb-false 2097152 (length bytes) short))

-- a plan that is read has at most so many bytes
pub length-plan : (bytes : List ℕ) (plan : PlanText) → plan_of bytes ≡ Ok plan → length bytes ≤ 2097152
length-plan bytes plan form = subst (Yields (λ p. length bytes ≤ 2097152)) form (small-plan bytes)
