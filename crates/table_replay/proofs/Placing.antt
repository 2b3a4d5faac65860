-- The places of all applications, one after another.
use Rattle.std.proofs.Common.{◌≡◌, ℕ, ◌+◌, ◌-◌, ◌<◌, ◌≤◌, ◌==◌, arith, Bool, true, false, eqb-true, List, [], ◌∷◌, ◌++◌, length, Some, refl, ap, sym, ◌∙◌}
use Rattle.std.specs.Prelude.{slice_get}
use Rattle.std.proofs.lemmas.Bool.Decides.{nat_tests}
use Rattle.run_check.specs.TablePlaces.{TablePlace}
use Rattle.replay_parts.proofs.Lists.{get_before, get_push}

-- one more
pub places_more : (place_of : ℕ → TablePlace) (places : List TablePlace) (n : ℕ) (place : TablePlace) → length places + 1 ≡ n →
    ((app : ℕ) → 1 ≤ app → app < n → slice_get places (app - 1) ≡ Some (place_of app)) → place ≡ place_of n →
    (app : ℕ) → 1 ≤ app → app < n + 1 → slice_get (places ++ place ∷ []) (app - 1) ≡ Some (place_of app)
places_more place_of places n place count before is app one less = by (app == n) refl
  where
    within : (app == n) ≡ false → app < n
    within apart = grind (arith, nat_tests)

    by : (b : Bool) → (app == n) ≡ b → slice_get (places ++ place ∷ []) (app - 1) ≡ Some (place_of app)
    by true same =
        let at : app - 1 ≡ length places = omega (arith, eqb-true app n same, count) in
        ap (λ i. slice_get (places ++ place ∷ []) i) at ∙ get_push places place ∙ ap Some (is ∙ ap place_of (sym (eqb-true app n same)))
    by false apart = get_before places place (app - 1) (omega (arith, one, within apart, count)) ∙ before app one (within apart)
