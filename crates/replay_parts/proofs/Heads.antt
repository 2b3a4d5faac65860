-- The application with whose number the line of an entry begins.
use Rattle.std.proofs.Common.{◌≡◌, ℕ, ◌+◌, ◌<◌, ◌≤◌, ◌==◌, ◌↔◌, Bool, true, false, true≢false, eqb-true, List, [], ◌∷◌, ◌++◌, codes, decimal, Option, Some, None, IfSome, IsTrue, refl, ap, sym, ◌∙◌, subst, arith, append_assoc}
use Rattle.std.proofs.lemmas.Bool.Decides.{nat_tests}
use Rattle.std.proofs.lemmas.List.{append_cancel_left}
use Rattle.run_check.specs.Judged.{Begins, entry_head}

parts : (d a x : List ℕ) → (((d ++ 32 ∷ 97 ∷ []) ++ a) ++ 32 ∷ []) ++ x ≡ d ++ ((32 ∷ 97 ∷ []) ++ ((a ++ 32 ∷ []) ++ x))
parts d a x = simp append_assoc

-- behind the entry's number and an a
pub head_from : (text one two : List ℕ) (n app : ℕ) → text ≡ decimal n ++ one → one ≡ codes " a" ++ two → Begins two (decimal app ++ 32 ∷ []) → Begins text (entry_head n app)
head_from text one two n app first second begins =
    (begins.0, first ∙ ap (λ t. decimal n ++ t) (second ∙ ap (λ t. codes " a" ++ t) begins.1) ∙ sym (parts (decimal n) (decimal app) begins.0))

pub head_to : (text one two : List ℕ) (n app : ℕ) → text ≡ decimal n ++ one → one ≡ codes " a" ++ two → Begins text (entry_head n app) → Begins two (decimal app ++ 32 ∷ [])
head_to text one two n app first second begins =
    let behind = append_cancel_left (decimal n) one _ (sym first ∙ begins.1 ∙ parts (decimal n) (decimal app) begins.0) in
    (begins.0, append_cancel_left (codes " a") two _ (sym second ∙ behind))

-- it begins with the entry's number, and with an a behind that
pub head_number : (text : List ℕ) (n app : ℕ) → Begins text (entry_head n app) → Begins text (decimal n)
head_number text n app begins = ((32 ∷ 97 ∷ []) ++ ((decimal app ++ 32 ∷ []) ++ begins.0), begins.1 ∙ parts (decimal n) (decimal app) begins.0)

pub head_letter : (text one : List ℕ) (n app : ℕ) → text ≡ decimal n ++ one → Begins text (entry_head n app) → Begins one (codes " a")
head_letter text one n app first begins =
    ((decimal app ++ 32 ∷ []) ++ begins.0, append_cancel_left (decimal n) one _ (sym first ∙ begins.1 ∙ parts (decimal n) (decimal app) begins.0))

-- if it doesn't begin with a number, it begins with none up to that
pub none_more : (text : List ℕ) (n : ℕ) (test : Bool) → ((app : ℕ) → 1 ≤ app → app < n → ¬ Begins text (decimal app ++ 32 ∷ [])) →
    IsTrue test ↔ Begins text (decimal n ++ 32 ∷ []) → test ≡ false → (app : ℕ) → 1 ≤ app → app < n + 1 → ¬ Begins text (decimal app ++ 32 ∷ [])
none_more text n test before this isnt app one less begins = by (app == n) refl
  where
    below : (app == n) ≡ false → app < n
    below apart = grind (arith, nat_tests)

    by : (b : Bool) → (app == n) ≡ b → ⊥
    by true same = true≢false (sym (this.1 (subst (λ k. Begins text (decimal k ++ 32 ∷ [])) (eqb-true app n same) begins)) ∙ isnt)
    by false apart = before app one (below apart) begins

-- what is told of an answer, told in another way
pub told_of : {A : Type 0} (r : Option A) (P Q : A → Type 0) → ((a : A) → P a → Q a) → IfSome r P → IfSome r Q
told_of None P Q tells told = tt
told_of (Some a) P Q tells told = tells a told
