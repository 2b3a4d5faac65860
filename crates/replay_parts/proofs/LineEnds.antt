-- The lines that end in a text, of which pieces of one length are counted first.
use Rattle.std.proofs.Common.{◌≡◌, ℕ, zero, suc, ◌+◌, ◌*◌, List, sum_by, take, drop, ap, arith}
use Rattle.std.specs.Simd.{first_chunks}
use Rattle.std.proofs.lemmas.List.{drop-drop}
use Rattle.std.proofs.lemmas.List.Sums.{sum_by-cons, sum_by-take-drop}
use Rattle.run_check.specs.Fronts.{line_ends}
use Rattle.run_check.proofs.Fronts.{ends_one}

no_piece : (n : ℕ) → 0 * n ≡ 0
no_piece n = omega arith

one_more : (n k : ℕ) → suc k * n ≡ n + k * n
one_more n k = omega arith

-- so many pieces and what stands behind them
pub pieces_ends : (n k : ℕ) (text : List ℕ) → sum_by line_ends (first_chunks n k text) + line_ends (drop (k * n) text) ≡ line_ends text
pieces_ends n zero text = omega (arith, ap (λ (m : ℕ). line_ends (drop m text)) (no_piece n))
pieces_ends n (suc k) text =
    omega (
      arith,
      sum_by-cons line_ends (take n text) (first_chunks n k (drop n text)),
      pieces_ends n k (drop n text),
      ap line_ends (drop-drop (k * n) n text),
      ap (λ (m : ℕ). line_ends (drop m text)) (one_more n k),
      sum_by-take-drop ends_one text n,
    )
