-- The sum of bytes, of which pieces of one length are added up first.
use Rattle.std.proofs.Common.{◌≡◌, ℕ, zero, suc, ◌+◌, ◌*◌, List, sum, sum_by, take, drop, ap, arith}
use Rattle.std.specs.Simd.{first_chunks}
use Rattle.std.proofs.lemmas.List.{drop-drop}
use Rattle.std.proofs.lemmas.List.Sums.{sum_by-cons, sum_by-take-drop}

no-piece : (n : ℕ) → 0 * n ≡ 0
no-piece n = omega arith

one-more : (n k : ℕ) → suc k * n ≡ n + k * n
one-more n k = omega arith

-- so many pieces and what stands behind them
pub pieces-sum : (n k : ℕ) (bytes : List ℕ) → sum_by sum (first_chunks n k bytes) + sum (drop (k * n) bytes) ≡ sum bytes
pieces-sum n zero bytes = omega (arith, ap (λ (m : ℕ). sum (drop m bytes)) (no-piece n))
pieces-sum n (suc k) bytes =
    omega (
      arith,
      sum_by-cons sum (take n bytes) (first_chunks n k (drop n bytes)),
      pieces-sum n k (drop n bytes),
      ap sum (drop-drop (k * n) n bytes),
      ap (λ (m : ℕ). sum (drop m bytes)) (one-more n k),
      sum_by-take-drop (λ (x : ℕ). x) bytes n,
    )
