-- The live subscriptions by number, as one slot changes.
use Rattle.std.proofs.Common.{◌≡◌, ◌≢◌, ℕ, zero, suc, ◌+◌, ◌<◌, ◌≤◌, eqb, cond, true, List, [], ◌∷◌, ◌++◌, length, get_or, set, Option, Some, None, refl, ap, ◌∙◌, arith, eq-eqb}
use Rattle.std.proofs.lemmas.Bool.Decides.{nat_tests}
use Rattle.subscriptions.specs.declared.place.Place.{Place}
use Rattle.subscriptions.specs.Inside.{held_in, numbered, live_upto, number_in, number_at}
use Rattle.subscriptions.proofs.Numbers.{differ}

-- no slot has the number
pub numbered_none : (number first : ℕ) (slots : List (Option Place)) → 0 < number → ((k : ℕ) → number_at slots k ≢ number) → numbered number first slots ≡ []
numbered_none number first [] some none = refl
numbered_none number first (None ∷ slots) some none = numbered_none number (first + 1) slots some (λ k. none (suc k))
numbered_none number first (Some p ∷ slots) some none =
    let ih = numbered_none number (first + 1) slots some (λ k. none (suc k)) in
    let ne = none 0 in
    grind (arith, nat_tests)

-- one slot has the number
pub numbered_one : (number first slot : ℕ) (slots : List (Option Place)) (p : Place) → 0 < number → get_or slots slot None ≡ Some p → p.number ≡ number → ((k : ℕ) → k ≢ slot → number_at slots k ≢ number) → numbered number first slots ≡ held_in (first + slot) p ∷ []
numbered_one number first slot [] p some is its others = absurd cc
numbered_one number first zero (None ∷ slots) p some is its others = absurd cc
numbered_one number first zero (Some q ∷ slots) p some is its others =
    let none : numbered number (first + 1) slots ≡ [] = numbered_none number (first + 1) slots some (λ k. others (suc k) (omega arith)) in
    let same : q ≡ p = cc in
    let here : eqb q.number number ≡ true = eq-eqb q.number number (ap (λ x. x.number) same ∙ its) in
    ap (λ b. cond b (held_in first q ∷ numbered number (first + 1) slots) (numbered number (first + 1) slots)) here
    ∙ (ap (λ xs. held_in first q ∷ xs) none ∙ (ap (λ x. held_in first x ∷ []) same ∙ ap (λ n. held_in n p ∷ []) (there first)))
  where
    there : (n : ℕ) → n ≡ n + zero
    there n = omega arith
numbered_one number first (suc slot) (None ∷ slots) p some is its others =
    numbered_one number (first + 1) slot slots p some is its (λ k ne. others (suc k) (λ e. ne (omega arith)))
    ∙ ap (λ n. held_in n p ∷ []) (there first slot)
  where
    there : (n m : ℕ) → n + 1 + m ≡ n + suc m
    there n m = omega arith
numbered_one number first (suc slot) (Some q ∷ slots) p some is its others =
    let ih : numbered number (first + 1) slots ≡ held_in (first + 1 + slot) p ∷ [] = numbered_one number (first + 1) slot slots p some is its (λ k ne. others (suc k) (λ e. ne (omega arith))) in
    let ne : q.number ≡ number → ⊥ = others 0 (omega arith) in
    ap (λ b. cond b (held_in first q ∷ numbered number (first + 1) slots) (numbered number (first + 1) slots)) (differ q.number number ne)
    ∙ (ih ∙ ap (λ n. held_in n p ∷ []) (there first slot))
  where
    there : (n m : ℕ) → n + 1 + m ≡ n + suc m
    there n m = omega arith

-- a slot that hasn't the number before nor after doesn't matter to it
pub numbered_beside : (number first slot : ℕ) (slots : List (Option Place)) (new : Option Place) → number_at slots slot ≢ number → number_in new ≢ number → numbered number first (set slots slot new) ≡ numbered number first slots
numbered_beside number first slot [] new before after = refl
numbered_beside number first zero (None ∷ slots) None before after = refl
numbered_beside number first zero (None ∷ slots) (Some p) before after = grind (arith, nat_tests)
numbered_beside number first zero (Some q ∷ slots) None before after = grind (arith, nat_tests)
numbered_beside number first zero (Some q ∷ slots) (Some p) before after = grind (arith, nat_tests)
numbered_beside number first (suc slot) (None ∷ slots) new before after = numbered_beside number (first + 1) slot slots new before after
numbered_beside number first (suc slot) (Some q ∷ slots) new before after =
    let ih : numbered number (first + 1) (set slots slot new) ≡ numbered number (first + 1) slots = numbered_beside number (first + 1) slot slots new before after in
    ap (λ xs. cond (eqb q.number number) (held_in first q ∷ xs) xs) ih

-- none of the numbers up to this one is the slot's
pub live_beside : (slots : List (Option Place)) (slot : ℕ) (new : Option Place) (upto : ℕ) → ((n : ℕ) → 0 < n → n ≤ upto → (number_at slots slot ≢ n) × (number_in new ≢ n)) → live_upto (set slots slot new) upto ≡ live_upto slots upto
live_beside slots slot new zero apart = refl
live_beside slots slot new (suc upto) apart =
    let ih = live_beside slots slot new upto (λ n some le. apart n some (omega arith)) in
    let a = apart (suc upto) (omega arith) (omega arith) in
    ap (λ xs. xs ++ numbered (suc upto) 0 (set slots slot new)) ih ∙ ap (λ xs. live_upto slots upto ++ xs) (numbered_beside (suc upto) 0 slot slots new a.0 a.1)

-- a slot that holds something is one of the slots
pub in_range : (slots : List (Option Place)) (slot : ℕ) (p : Place) → get_or slots slot None ≡ Some p → slot < length slots
in_range [] slot p here = absurd cc
in_range (q ∷ slots) zero p here = omega arith
in_range (q ∷ slots) (suc slot) p here =
    let ih = in_range slots slot p here in
    omega arith
