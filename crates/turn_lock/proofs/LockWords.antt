-- The two words of the lock, and what is left of them after one was changed.
use Rattle.std.proofs.Common.{◌≡◌, ◌≢◌, ◌+◌, ◌%◌, ◌^◌, Bool, true, false, true≢false, ℕ, zero, suc, List, [], ◌∷◌, length, get_or, set, refl, sym, ap, ◌∙◌, arith, get_or-set_same, get_or-set_other}
use Rattle.std.specs.Prelude.{◌==◌}
use prog.Atomic.{either}

-- a word that becomes what it was
pub set_same : (words : List ℕ) (i : ℕ) → set words i (get_or words i 0) ≡ words
set_same [] i = refl
set_same (n ∷ ns) zero = refl
set_same (n ∷ ns) (suc i) = ap (λ l. n ∷ l) (set_same ns i)

-- the turn's word after it was set
pub turn_set : (words : List ℕ) (n : ℕ) → length words ≡ 2 → get_or (set words 0 n) 0 0 ≡ n
turn_set words n two = get_or-set_same words 0 n 0 (omega (arith, two))

-- and after the bell's was
pub turn_kept : (words : List ℕ) (n : ℕ) → get_or (set words 1 n) 0 0 ≡ get_or words 0 0
turn_kept words n = get_or-set_other words 1 0 n 0 (λ e. omega arith)

-- the bell's word after the turn's was set
pub bell_kept : (words : List ℕ) (n : ℕ) → get_or (set words 0 n) 1 0 ≡ get_or words 1 0
bell_kept words n = get_or-set_other words 0 1 n 0 (λ e. omega arith)

-- and after it was set itself
pub bell_set : (words : List ℕ) (n : ℕ) → length words ≡ 2 → get_or (set words 1 n) 1 0 ≡ n
bell_set words n two = get_or-set_same words 1 n 0 (omega (arith, two))

-- one ring more
pub rung_once : (found rings : ℕ) → found ≡ rings % 2 ^ 64 → (found + 1) % 2 ^ 64 ≡ (rings + 1) % 2 ^ 64
rung_once found rings is = omega (arith, is)

not_free : (b : Bool) (n : ℕ) → (b ≡ false → n ≢ 0) → either b 1 n ≢ 0
not_free true n h e = omega (arith, e)
not_free false n h e = h refl e

-- what a step leaves in the turn's word that takes the turn if it is free
pub seized : (n : ℕ) → either (n == 0) 1 n ≢ 0
seized n = not_free (n == 0) n (λ other free. true≢false (sym (ap (λ k. k == 0) free) ∙ other))

pub awaited : (n : ℕ) → ◌≢◌ {A = ℕ} 2 0
awaited n e = omega (arith, e)
