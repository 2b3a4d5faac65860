-- What two texts have in common, byte by byte.
use Rattle.std.proofs.Common.{◌≡◌, ℕ, zero, suc, ◌+◌, add-one, ◌≢◌, ◌<◌, ◌==◌, ◌↔◌, min, Bool, true, true≢false, eq-eqb, ne_eqb, List, [], ◌∷◌, ◌++◌, length, take, get_or, Option, Some, None, IsTrue, MatchOption, Bor, if◌then◌else◌, refl, ap, sym, ◌∙◌, arith, append_assoc}
use Rattle.std.specs.Prelude.{is_some}
use Rattle.std.proofs.lemmas.List.{append_cancel_left}
use Rattle.run_check.specs.Judged.{Begins}
use Rattle.run_check.specs.Fronts.{alike}

same_number : (n : ℕ) → (n == n) ≡ true
same_number n = eq-eqb n n refl

-- one byte that both have
alike_one_more : (x y : ℕ) (xs ys : List ℕ) → x ≡ y → alike (x ∷ xs) (y ∷ ys) ≡ x ∷ alike xs ys
alike_one_more x y xs ys same = ap (λ (b : Bool). if b then x ∷ alike xs ys else []) (ap (λ z. x == z) (sym same) ∙ same_number x)

-- as far as the first byte that they don't have in common
pub alike_stops : (one other : List ℕ) (i : ℕ) → take i one ≡ take i other → i < length one → i < length other → get_or one i 0 ≢ get_or other i 0 → take i one ≡ alike one other
alike_stops [] other i same within short differ = absurd (omega (arith, within))
alike_stops (x ∷ one) [] i same within short differ = absurd (omega (arith, short))
alike_stops (x ∷ one) (y ∷ other) zero same within short differ = sym (ap (λ (b : Bool). if b then x ∷ alike one other else []) (ne_eqb x y differ))
alike_stops (x ∷ one) (y ∷ other) (suc i) same within short differ =
    let first : x ≡ y = cc same in
    let rest : take i one ≡ take i other = cc same in
    ap (λ l. x ∷ l) (alike_stops one other i rest (omega (arith, within)) (omega (arith, short)) differ) ∙ sym (alike_one_more x y one other first)

-- as far as the end of the shorter
pub alike_ends : (one other : List ℕ) (i : ℕ) → take i one ≡ take i other → i ≡ min (length one) (length other) → take i one ≡ alike one other
alike_ends [] other zero same end = refl
alike_ends [] other (suc i) same end = absurd (omega (arith, end))
alike_ends (x ∷ one) [] zero same end = refl
alike_ends (x ∷ one) [] (suc i) same end = absurd (omega (arith, end))
alike_ends (x ∷ one) (y ∷ other) zero same end = absurd (omega (arith, end))
alike_ends (x ∷ one) (y ∷ other) (suc i) same end =
    let first : x ≡ y = cc same in
    let rest : take i one ≡ take i other = cc same in
    ap (λ l. x ∷ l) (alike_ends one other i rest (omega (arith, end))) ∙ sym (alike_one_more x y one other first)

-- one byte more in common
take_more : (one other : List ℕ) (i : ℕ) → take i one ≡ take i other → i < length one → i < length other → get_or one i 0 ≡ get_or other i 0 → take (suc i) one ≡ take (suc i) other
take_more [] other i same within short alike = absurd (omega (arith, within))
take_more (x ∷ one) [] i same within short alike = absurd (omega (arith, short))
take_more (x ∷ one) (y ∷ other) zero same within short alike = ap (λ z. z ∷ []) alike
take_more (x ∷ one) (y ∷ other) (suc i) same within short alike =
    let first : x ≡ y = cc same in
    let rest : take i one ≡ take i other = cc same in
    ap (λ z. z ∷ take (suc i) one) first ∙ ap (λ l. y ∷ l) (take_more one other i rest (omega (arith, within)) (omega (arith, short)) alike)

pub take_one_more : (one other : List ℕ) (i : ℕ) → take i one ≡ take i other → i < length one → i < length other → get_or one i 0 ≡ get_or other i 0 → take (i + 1) one ≡ take (i + 1) other
take_one_more one other i same within short alike =
    ap (λ k. take k one) (add-one i) ∙ take_more one other i same within short alike ∙ ap (λ k. take k other) (sym (add-one i))

-- Fronts. --

-- what is stripped is a front
pub stripped : (s p : List ℕ) (r : Option (Bor (List ℕ))) → MatchOption r ((rest : List ℕ) → s ≢ p ++ rest) (λ x. s ≡ p ++ x.now) → MatchOption r (¬ Begins s p) (λ x. s ≡ p ++ x.now)
stripped s p None none = λ begins. none begins.0 begins.1
stripped s p (Some x) some = some

-- a text behind a front of it, and a blank behind that
pub blank_behind : (text d rest : List ℕ) (r : Option (Bor (List ℕ))) → text ≡ d ++ rest → MatchOption r (¬ Begins rest (32 ∷ [])) (λ x. rest ≡ 32 ∷ [] ++ x.now) →
    IsTrue (is_some r) ↔ Begins text (d ++ 32 ∷ [])
blank_behind text d rest None is none =
    ((λ yes. absurd (true≢false (sym yes))), λ begins. absurd (none (begins.0, append_cancel_left d rest _ (sym is ∙ begins.1 ∙ append_assoc d (32 ∷ []) begins.0))))
blank_behind text d rest (Some x) is some = ((λ yes. (x.now, is ∙ ap (λ t. d ++ t) some ∙ sym (append_assoc d (32 ∷ []) x.now))), λ begins. refl)
