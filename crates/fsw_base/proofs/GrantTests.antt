-- Tests of numbers that are the same or not, and filters that leave nothing out.
use Rattle.std.proofs.Common.{◌≡◌, ℕ, Bool, true, false, cond, eqb, List, [], ◌∷◌, refl, ap, ◌∙◌, arith}
use Rattle.std.specs.List.{filter, All}
use Rattle.std.proofs.lemmas.Bool.Decides.{nat_tests}
use Rattle.std.proofs.lemmas.List.Elements.{All-tail}

pub true_from_same : (a b : ℕ) → a ≡ b → eqb a b ≡ true
true_from_same a b e = grind (arith, nat_tests)

pub false_from_other : (a b : ℕ) → (a ≡ b → ⊥) → eqb a b ≡ false
false_from_other a b ne = grind (arith, nat_tests)

-- all pass, so none is left out
pub filter_all : {X : Type 0} (p : X → Bool) (xs : List X) → All (λ x. p x ≡ true) xs → filter p xs ≡ xs
filter_all p [] all = refl
filter_all p (x ∷ xs) all =
    let here : p x ≡ true = all 0 x (omega arith) in
    ap (λ b. cond b (x ∷ filter p xs) (filter p xs)) here ∙ ap (λ l. x ∷ l) (filter_all p xs (All-tail (λ y. p y ≡ true) x xs all))
