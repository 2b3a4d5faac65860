-- Applications that are all different are at most sixteen.
use Rattle.std.proofs.Common.{◌≡◌, ℕ, ◌<◌, ◌≤◌, ◌||◌, Bool, true, false, eqb, eqb-true, List, [], ◌∷◌, ◌++◌, length, All, Contains, refl, ap₂, arith, length-append}
use Rattle.std.specs.List.{IsDistinct, list_any}
use Rattle.std.specs.Cmp.{nat_eq_equiv}
use Rattle.std.proofs.lemmas.Bool.Decides.{nat_tests}
use Rattle.std.proofs.lemmas.List.Elements.{All-contains, All-cons, All-push}
use Rattle.std.proofs.lemmas.Map.Keys.{IsDistinct-push}
use Rattle.std.proofs.lemmas.Map.Steps.{length-le_from_distinct_below}
use Rattle.std.proofs.lemmas.Map.Views.{Contains-from_any}

pub none_once : IsDistinct eqb (0 ∷ [])
unfolding IsDistinct
none_once = (tt, tt)

-- no test finds what isn't in a list
not_found : (apps : List ℕ) (app : ℕ) → ¬ (Contains apps app) → list_any (eqb app) apps ≡ false
not_found apps app out = by (list_any (eqb app) apps) refl
  where
    by : (b : Bool) → list_any (eqb app) apps ≡ b → b ≡ false
    by true is = absurd (out (Contains-from_any (λ x y same. eqb-true x y same) app apps is))
    by false is = refl

-- one more stays different from all others, and from 0
pub one_more : (apps : List ℕ) (app : ℕ) → IsDistinct eqb (0 ∷ apps) → 1 ≤ app → ¬ (Contains apps app) → IsDistinct eqb (0 ∷ (apps ++ app ∷ []))
one_more apps app once first out =
    IsDistinct-push nat_eq_equiv (0 ∷ apps) app once (ap₂ (λ (a b : Bool). a || b) (positive app first) (not_found apps app out))
  where
    positive : (n : ℕ) → 1 ≤ n → eqb n 0 ≡ false
    positive n one = grind (arith, nat_tests)

-- so there was room for it
pub room_for : (apps : List ℕ) (app : ℕ) → IsDistinct eqb (0 ∷ apps) → All (λ (n : ℕ). n ≤ 16) apps → 1 ≤ app → app ≤ 16 → ¬ (Contains apps app) → length apps < 16
room_for apps app once most first last out =
    let small : ℕ → Type 0 = λ n. n ≤ 16 in
    let each : All small (0 ∷ (apps ++ app ∷ [])) = All-cons small 0 (apps ++ app ∷ []) (omega arith) (All-push small apps app most last) in
    let few = length-le_from_distinct_below (0 ∷ (apps ++ app ∷ [])) 17 (one_more apps app once first out)
    (λ q found. below q (All-contains small (0 ∷ (apps ++ app ∷ [])) q each (Contains-from_any (λ x y same. eqb-true x y same) q (0 ∷ (apps ++ app ∷ [])) found))) in
    omega (arith, few, length-append apps (app ∷ []))
  where
    below : (q : ℕ) → q ≤ 16 → q < 17
    below q fits = omega (arith, fits)
