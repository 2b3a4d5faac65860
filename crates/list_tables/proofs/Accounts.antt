-- How many blocks of a size are out.
use Rattle.std.proofs.Common.{◌≡◌, ℕ, ◌<◌, zero, suc, List, [], ◌∷◌, map, length, get_or, refl, arith}

-- of the size at a place, by that size
pub out_at : (out : ℕ → ℕ) (sizes : List ℕ) (class : ℕ) → class < length sizes → get_or (map out sizes) class 0 ≡ out (get_or sizes class 0)
out_at out [] class h = absurd (omega (arith, h))
out_at out (size ∷ sizes) zero h = refl
out_at out (size ∷ sizes) (suc class) h = out_at out sizes class (omega (arith, h))
