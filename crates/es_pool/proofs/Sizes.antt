-- Block sizes rise from the first, and are small.
use Rattle.std.proofs.Common.{◌≡◌, ℕ, ◌+◌, ◌*◌, ◌-◌, ◌<◌, ◌≤◌, ◌^◌, ◌&&◌, zero, suc, Bool, true, false, List, [], ◌∷◌, length, get_or, leb, refl, ◌⊎◌, inl, inr, ap, ◌∙◌, arith}
use Rattle.std.proofs.lemmas.Bool.Decides.{nat_tests}
use Rattle.std.proofs.lemmas.Bool.{cases_lt}
use Rattle.std.proofs.lemmas.Nat.{mul-lt}
use Rattle.std.proofs.Math.Nat.{mul-le-mul}
use Rattle.fsw_base.specs.Blocks.{are_rising_from, are_block_sizes}

pub in_range : (least size : ℕ) (multiple later : Bool) → (leb least size && multiple && leb size 80000 && later) ≡ true → (least ≤ size) × (size ≤ 80000) × (later ≡ true)
in_range least size true true e = (grind (arith, nat_tests), grind (arith, nat_tests), refl)
in_range least size true false e = absurd (no (leb least size) (leb size 80000) e)
  where
    no : (a b : Bool) → (a && true && b && false) ≡ true → ⊥
    no true true e = cc
    no true false e = cc
    no false b e = cc
in_range least size false later e = absurd (no (leb least size) (leb size 80000) later e)
  where
    no : (a b c : Bool) → (a && false && b && c) ≡ true → ⊥
    no true b c e = cc
    no false b c e = cc

pub rising : (sizes : List ℕ) (least class : ℕ) → are_rising_from least sizes ≡ true → class < length sizes → (least ≤ get_or sizes class 0) × (get_or sizes class 0 ≤ 80000)
rising [] least class e h = absurd (omega (arith, h))
rising (size ∷ sizes) least zero e h =
    let here = in_range least size _ _ e in
    (here.0, here.1)
rising (size ∷ sizes) least (suc class) e h =
    let here = in_range least size _ _ e in
    let later = rising sizes (size + 1) class here.2 (omega (arith, h)) in
    (omega (arith, here.0, later.0), later.1)

first_least : (sizes : List ℕ) (class : ℕ) → are_rising_from 0 sizes ≡ true → class < length sizes → get_or sizes 0 0 ≤ get_or sizes class 0
first_least [] class e h = absurd (omega (arith, h))
first_least (size ∷ sizes) zero e h = omega arith
first_least (size ∷ sizes) (suc class) e h =
    let here = in_range 0 size _ _ e in
    let later = rising sizes (size + 1) class here.2 (omega (arith, h)) in
    omega (arith, later.0)

pub part : (some few rise : Bool) → (some && few && rise) ≡ true → rise ≡ true
part true true rise e = e
part true false rise e = absurd cc
part false few rise e = absurd cc

pub size_small : (sizes : List ℕ) (class : ℕ) → are_block_sizes sizes ≡ true → class < length sizes → get_or sizes class 0 ≤ 80000
size_small sizes class e h = (rising sizes 0 class (part (leb 1 (length sizes)) (leb (length sizes) 17) (are_rising_from 0 sizes) e) h).1

pub size_least : (sizes : List ℕ) (class : ℕ) → are_block_sizes sizes ≡ true → class < length sizes → get_or sizes 0 0 ≤ get_or sizes class 0
size_least sizes class e h = first_least sizes class (part (leb 1 (length sizes)) (leb (length sizes) 17) (are_rising_from 0 sizes) e) h

-- a product of two numbers of 32 bits
pub product_small : (a b : ℕ) → a < 2 ^ 32 → b < 2 ^ 32 → a * b < 2 ^ 64
product_small a b ha hb = mul-lt a b (2 ^ 32) (2 ^ 32) ha hb

-- what has to be cut fits into the rest if and only if it fits beside what was cut
pub fits_rest : (used rest bytes cost out free made count : ℕ) → used + rest ≡ bytes → made ≡ out + free → leb (cost * (count - free)) rest ≡ leb (used + cost * (out + count - made)) bytes
fits_rest used rest bytes cost out free made count e_bytes e_made =
    moved (cost * (count - free)) (cost * (out + count - made)) (ap (λ n. cost * n) same)
  where
    same : count - free ≡ out + count - made
    same = omega (arith, e_made)

    moved : (x y : ℕ) → x ≡ y → leb x rest ≡ leb (used + y) bytes
    moved x y e = grind (arith, nat_tests)

-- if as many are free nothing has to be cut
pub fits_free : (used rest bytes cost out free made count : ℕ) → used + rest ≡ bytes → made ≡ out + free → count ≤ free → leb (used + cost * (out + count - made)) bytes ≡ true
fits_free used rest bytes cost out free made count e_bytes e_made enough =
    let none : out + count - made ≡ 0 = omega (arith, e_made, enough) in
    ap (λ n. leb (used + cost * n) bytes) none ∙ paid (cost * 0) (omega arith)
  where
    paid : (x : ℕ) → x ≡ 0 → leb (used + x) bytes ≡ true
    paid x e = grind (arith, nat_tests)

-- the same at what the code computed
pub fits_read : (x y z used rest bytes cost out free made count : ℕ) → x ≡ cost → y ≡ count - free → z ≡ rest → used + rest ≡ bytes → made ≡ out + free → leb (x * y) z ≡ leb (used + cost * (out + count - made)) bytes
fits_read x y z used rest bytes cost out free made count ex ey ez e_bytes e_made =
    ap (λ n. leb (n * y) z) ex ∙ (ap (λ n. leb (cost * n) z) ey ∙ (ap (leb (cost * (count - free))) ez ∙ fits_rest used rest bytes cost out free made count e_bytes e_made))

-- a number of blocks of at least `cost` bytes each, and one more, in `most` bytes
pub room_left : (blocks capacity cost used more most : ℕ) → blocks * cost ≤ used → cost ≤ more → used + more ≤ most → most < (capacity + 1) * cost → blocks < capacity
room_left blocks capacity cost used more most fill each within enough = by_cases (cases_lt blocks capacity)
  where
    by_cases : (blocks < capacity) ⊎ (capacity ≤ blocks) → blocks < capacity
    by_cases (inl h) = h
    by_cases (inr h) =
        let big : (capacity + 1) * cost ≤ (blocks + 1) * cost = mul-le-mul (omega (arith, h)) (omega arith) in
        let next : (blocks + 1) * cost ≡ blocks * cost + cost = omega arith in
        absurd (omega (arith, big, next, fill, each, within, enough))
