-- The places of all applications, one after another.
use Rattle.std.proofs.Common.{◌≡◌, ℕ, ◌+◌, ◌-◌, ◌<◌, ◌≤◌, ◌==◌, arith, Bool, true, false, eqb-true, List, [], ◌∷◌, ◌++◌, length, set, get_or, Some, refl, ap, sym, ◌∙◌}
use Rattle.std.specs.Prelude.{slice_get}
use Rattle.std.specs.Option.{option_map}
use Rattle.std.proofs.lemmas.Option.{get_or_from_slice_get}
use Rattle.std.proofs.lemmas.Bool.Decides.{nat_tests}
use Rattle.run_check.specs.Places.{Place}
use Rattle.replay_parts.proofs.Lists.{get_before, get_push, get_set}
use Rattle.bus_replay.specs.Places.{Kept, place_of}

-- one more
pub places_more : (place_at : ℕ → Place) (places : List Kept) (n : ℕ) (place : Kept) → length places + 1 ≡ n →
    ((app : ℕ) → 1 ≤ app → app < n → option_map place_of (slice_get places (app - 1)) ≡ Some (place_at app)) → place_of place ≡ place_at n →
    (app : ℕ) → 1 ≤ app → app < n + 1 → option_map place_of (slice_get (places ++ place ∷ []) (app - 1)) ≡ Some (place_at app)
places_more place_at places n place count before is app one less = by (app == n) refl
  where
    within : (app == n) ≡ false → app < n
    within apart = grind (arith, nat_tests)

    by : (b : Bool) → (app == n) ≡ b → option_map place_of (slice_get (places ++ place ∷ []) (app - 1)) ≡ Some (place_at app)
    by true same =
        let at : app - 1 ≡ length places = omega (arith, eqb-true app n same, count) in
        ap (λ i. option_map place_of (slice_get (places ++ place ∷ []) i)) at
        ∙ ap (λ o. option_map place_of o) (get_push places place)
        ∙ ap Some (is ∙ ap place_at (sym (eqb-true app n same)))
    by false apart =
        ap (λ o. option_map place_of o) (get_before places place (app - 1) (omega (arith, one, within apart, count))) ∙ before app one (within apart)

-- the one that moved
pub own_settled : (places : List Kept) (i : ℕ) (old now : Kept) (change : Place → Place) → old ≡ get_or places i old → place_of now ≡ change (place_of old) →
    (place : Kept) → slice_get places i ≡ Some place → option_map place_of (slice_get (set places i now) i) ≡ Some (change (place_of place))
own_settled places i old now change is moved place there =
    ap (λ o. option_map place_of o) (get_set places i now place there)
    ∙ ap Some (moved ∙ ap (λ k. change (place_of k)) (is ∙ get_or_from_slice_get places i place old there))
