-- What is found once the element at a place is another one of its key.
use Rattle.std.proofs.Common.{◌≡◌, ℕ, Bool, true, false, cond, eqb, List, get_or, set, refl, sym, ap, subst, ◌∙◌, arith, Option, Some, None, IsSome}
use Rattle.std.specs.List.{find}
use Rattle.std.specs.Option.{option_map}
use Rattle.std.proofs.lemmas.Bool.Decides.{nat_tests}
use Rattle.std.proofs.lemmas.List.{get_or-set_same, length-set}
use Rattle.std.proofs.lemmas.List.Recursion.{found_set_other}
use Rattle.buf_desc.specs.Inside.{IsRisingBy, IsAt}
use Rattle.buf_desc.proofs.Finds.{found, seen}
use Rattle.buf_desc.proofs.RisingKeys.{rising_set}

module _ {X : Type 0} (key : X → ℕ) (xs : List X) (rising : IsRisingBy key xs) (k i : ℕ) (here : IsAt key xs k i) (x y : X) (read : x ≡ get_or xs i x) (same : key y ≡ key x) where
  abbrev at : ℕ → X → Bool
  at j z = eqb (key z) j

  is_key : key y ≡ k
  is_key = same ∙ ap key read ∙ here.has_key x

  still_at : IsAt key (set xs i y) k i
  still_at = record {
    within = omega (arith, here.within, length-set xs i y);
    has_key = λ d. ap key (get_or-set_same xs i y d here.within) ∙ is_key;
  }

  pub changed_rises : IsRisingBy key (set xs i y)
  changed_rises = rising_set key xs rising i y x here.within read same

  pub find_changed : (j : ℕ) → find (at j) (set xs i y) ≡ cond (eqb k j) (Some y) (find (at j) xs)
  find_changed j = by_test (eqb k j) refl
    where
      is_same : (a b : ℕ) → eqb a b ≡ true → a ≡ b
      is_same a b e = grind (arith, nat_tests)

      apart : (a : ℕ) → a ≡ k → eqb k j ≡ false → eqb a j ≡ false
      apart a e f = ap (λ n. eqb n j) e ∙ f

      by_test : (b : Bool) → eqb k j ≡ b → find (at j) (set xs i y) ≡ cond b (Some y) (find (at j) xs)
      by_test true e =
          subst (λ n. find (at n) (set xs i y) ≡ Some y) (is_same k j e)
          (sym (seen (at k) (set xs i y) i y (found key (set xs i y) k i changed_rises still_at) (sym (get_or-set_same xs i y y here.within))))
      by_test false e = found_set_other (find (at j)) (at j) Some None refl (λ z zs. refl) xs i y y (apart (key (get_or xs i y)) (here.has_key y) e) (apart (key y) is_key e)

-- if there is a part, there is a whole
pub part_there : {X Y : Type 0} (part : X → Y) (o : Option X) → IsSome (option_map part o) → IsSome o
part_there part (Some x) is = refl
part_there {X = X} {Y = Y} part None is = absurd (none is)
  where
    none : IsSome {T = Y} None → ⊥
    none h = cc
