-- Tests of numbers.
use Rattle.std.proofs.Common.{◌≡◌, ℕ, ◌+◌, eqb, true, false, ◌&&◌, arith}
use Rattle.std.proofs.lemmas.Bool.Decides.{nat_tests}

pub equal : (a b : ℕ) → eqb a b ≡ true → a ≡ b
equal a b e = grind (arith, nat_tests)

pub differ : (a b : ℕ) → (a ≡ b → ⊥) → eqb a b ≡ false
differ a b ne = grind (arith, nat_tests)

pub both_equal : (a b c d : ℕ) → a ≡ b → c ≡ d → (eqb a b && eqb c d) ≡ true
both_equal a b c d e f = grind (arith, nat_tests)

pub one_differs : (a b c d : ℕ) → (c ≡ d → ⊥) → (eqb a b && eqb c d) ≡ false
one_differs a b c d ne = grind (arith, nat_tests)

pub zero_more : (n : ℕ) → 0 + n ≡ n
zero_more n = omega arith
