-- Block sizes are small, and what the blocks of a pool cost.
use Rattle.std.proofs.Common.{◌≡◌, ℕ, ◌+◌, ◌-◌, ◌*◌, ◌<◌, ◌≤◌, ◌&&◌, zero, suc, Bool, true, false, leb, List, [], ◌∷◌, length, get_or, refl, arith}
use Rattle.std.proofs.lemmas.Bool.Decides.{nat_tests}
use Rattle.std.proofs.Math.Nat.{mul-le-mul}
use Rattle.fsw_base.specs.Blocks.{are_rising_from, are_block_sizes}
use Rattle.fsw_base.specs.PoolAccounts.{Account, overhead, cost_of, has_room_for}

-- Block sizes. --

in_range : (least size : ℕ) (multiple later : Bool) → (leb least size && multiple && leb size 80000 && later) ≡ true → (size ≤ 80000) × (later ≡ true)
in_range least size true true e = (grind (arith, nat_tests), refl)
in_range least size true false e = absurd (no (leb least size) (leb size 80000) e)
  where
    no : (a b : Bool) → (a && true && b && false) ≡ true → ⊥
    no true true e = cc
    no true false e = cc
    no false b e = cc
in_range least size false later e = absurd (no (leb least size) (leb size 80000) later e)
  where
    no : (a b c : Bool) → (a && false && b && c) ≡ true → ⊥
    no true b c e = cc
    no false b c e = cc

small_from : (sizes : List ℕ) (least class : ℕ) → are_rising_from least sizes ≡ true → class < length sizes → get_or sizes class 0 ≤ 80000
small_from [] least class e h = absurd (omega (arith, h))
small_from (size ∷ sizes) least zero e h = (in_range least size _ _ e).0
small_from (size ∷ sizes) least (suc class) e h = small_from sizes (size + 1) class (in_range least size _ _ e).1 (omega (arith, h))

part : (some few rise : Bool) → (some && few && rise) ≡ true → rise ≡ true
part true true rise e = e
part true false rise e = absurd cc
part false few rise e = absurd cc

-- a block size is at most 80000
pub size_small : (sizes : List ℕ) (class : ℕ) → are_block_sizes sizes ≡ true → class < length sizes → get_or sizes class 0 ≤ 80000
size_small sizes class e h = small_from sizes 0 class (part (leb 1 (length sizes)) (leb (length sizes) 17) (are_rising_from 0 sizes) e) h

-- Costs. --

-- a product of two numbers that have bounds
pub product_small : (a b most greatest : ℕ) → a ≤ most → b ≤ greatest → a * b ≤ most * greatest
product_small a b most greatest ha hb = mul-le-mul ha hb

-- what one class took is part of the whole
pub cost-get : (made sizes : List ℕ) (class : ℕ) → length made ≡ length sizes → class < length made → get_or made class 0 * (get_or sizes class 0 + overhead) ≤ cost_of made sizes
cost-get [] sizes class e h = absurd (omega (arith, h))
cost-get (count ∷ made) [] class e h = absurd (omega (arith, e))
cost-get (count ∷ made) (size ∷ sizes) zero e h = omega arith
cost-get (count ∷ made) (size ∷ sizes) (suc class) e h = omega (arith, cost-get made sizes class (omega (arith, e)) (omega (arith, h)))

-- a number is at most its product with what a block costs
le_product : (n size : ℕ) → n * overhead ≤ n * (size + overhead)
le_product n size =
    let spread : n * (size + overhead) ≡ n * size + n * overhead = omega arith in
    omega (arith, spread)

le_product_behind : (n size : ℕ) → n * overhead ≤ (size + overhead) * n
le_product_behind n size =
    let spread : (size + overhead) * n ≡ n * size + n * overhead = omega arith in
    omega (arith, spread)

room_read : (cost k x bytes : ℕ) → leb (cost + k * x) bytes ≡ true → cost + k * x ≤ bytes
room_read cost k x bytes e = grind (arith, nat_tests)

-- if there is room for so many more blocks, no more are out afterwards than the pool has bytes
pub few_drawn : (account : Account) (class count : ℕ) → length account.made ≡ length account.sizes → class < length account.sizes → has_room_for account class count ≡ true → get_or account.out class 0 + count ≤ account.bytes
few_drawn account class count e h room =
    let m = get_or account.made class 0 in
    let o = get_or account.out class 0 in
    let size = get_or account.sizes class 0 in
    let fits = room_read (cost_of account.made account.sizes) (size + overhead) (o + count - m) account.bytes room in
    let part = cost-get account.made account.sizes class e (omega (arith, e, h)) in
    omega (arith, fits, part, le_product m size, le_product_behind (o + count - m) size)
