-- The numbers from one on.
use Rattle.std.proofs.Common.{◌≡◌, ℕ, ◌+◌, zero, suc, [], ◌∷◌, ◌++◌, ap, ◌∙◌, arith}
use Rattle.std.specs.List.{range_with_len}

-- one number more
pub range_more : (a n : ℕ) → range_with_len a n ++ (a + n) ∷ [] ≡ range_with_len a (n + 1)
range_more a zero = ap (λ m. m ∷ []) (add_none a)
  where
    add_none : (m : ℕ) → m + zero ≡ m
    add_none m = omega arith
range_more a (suc n) =
    ap (λ m. a ∷ (range_with_len (a + 1) n ++ m ∷ [])) (moved a n) ∙ (ap (λ ms. a ∷ ms) (range_more (a + 1) n) ∙ ap (range_with_len a) (one_more n))
  where
    moved : (m k : ℕ) → m + suc k ≡ m + 1 + k
    moved m k = omega arith

    one_more : (k : ℕ) → suc (k + 1) ≡ suc k + 1
    one_more k = omega arith
