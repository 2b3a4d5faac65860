-- What a report tells of the version of the bus.
use Rattle.std.proofs.Common.{◌≡◌, ℕ, List, [], ◌∷◌, ◌++◌, cond, drop, codes, decimal, ap, sym, ◌∙◌, arith, append_assoc}
use Rattle.std.proofs.lemmas.Bool.{eq-eqb, ne_eqb}
use Rattle.housekeeping.specs.Counters.{Counts}
use Rattle.run_report.specs.CounterText.{field_text, oldest_text}
use Rattle.run_report.proofs.Splits.{split_once, decimal_above}

-- the counter of version 2 is told of it, and of no other
pub oldest_told : (version : ℕ) (counts : Counts) → version ≡ 2 → oldest_text version counts ≡ field_text (codes "oldest") counts.oldest
unfolding oldest_text
oldest_told version counts two = ap (λ b. cond b (field_text (codes "oldest") counts.oldest) []) (eq-eqb version 2 two)

pub oldest_untold : (version : ℕ) (counts : Counts) → (version ≡ 2 → ⊥) → oldest_text version counts ≡ []
unfolding oldest_text
oldest_untold version counts other = ap (λ b. cond b (field_text (codes "oldest") counts.oldest) []) (ne_eqb version 2 other)

-- two reports that are the same are so behind their first two lines
pub behind_version : (m n : ℕ) (x y : List ℕ) → codes "fsw " ++ (decimal m ++ 10 ∷ (codes "bus\n" ++ x)) ≡ codes "fsw " ++ (decimal n ++ 10 ∷ (codes "bus\n" ++ y)) → x ≡ y
behind_version m n x y same =
    let rest = split_once 11 10 (decimal m) (decimal n) (codes "bus\n" ++ x) (codes "bus\n" ++ y) (omega arith) (decimal_above 11 m (omega arith)) (decimal_above 11 n (omega arith)) (ap (drop 4) same) in
    ap (drop 4) rest.1

-- the first two lines of a report, and what is behind them
pub behind_opening : (v e t u r s q x z : List ℕ) → codes "fsw " ++ v ++ codes "\nbus\n" ++ e ++ t ++ u ++ r ++ s ++ q ++ x ++ z ≡ codes "fsw " ++ (v ++ 10 ∷ (codes "bus\n" ++ (e ++ t ++ u ++ r ++ s ++ q ++ x ++ z)))
behind_opening v e t u r s q x z = simp append_assoc
