-- The digits of a number, at most four at a time.
use Rattle.std.proofs.Common.{◌≡◌, ℕ, ◌+◌, ◌/◌, ◌%◌, ◌^◌, ◌<◌, ◌≤◌, List, [], ◌∷◌, ◌++◌, decimal, arith, append_assoc}
use Rattle.std.proofs.lemmas.Fmt.{decimal_digit, decimal_step}

-- the last four digits, with zeros in front
abbrev pub last_four : ℕ → List ℕ
last_four n = (48 + n / 1000) ∷ (48 + n / 100 % 10) ∷ (48 + n / 10 % 10) ∷ (48 + n % 10) ∷ []

-- numbers of one digit, of two, of three and of four
pub decimal_one : (n : ℕ) → n < 10 → decimal n ≡ (48 + n % 10) ∷ []
decimal_one n small = let same : n % 10 ≡ n = omega arith in rw (decimal_digit n small, same)

pub decimal_two : (n : ℕ) → 10 ≤ n → n < 100 → decimal n ≡ (48 + n / 10 % 10) ∷ (48 + n % 10) ∷ []
decimal_two n large small = rw (decimal_step n large (omega arith), decimal_one (n / 10) (omega arith))

pub decimal_three : (n : ℕ) → 100 ≤ n → n < 1000 → decimal n ≡ (48 + n / 100 % 10) ∷ (48 + n / 10 % 10) ∷ (48 + n % 10) ∷ []
decimal_three n large small =
    let first : n / 10 / 10 % 10 ≡ n / 100 % 10 = omega arith in
    rw (decimal_step n (omega arith) (omega arith), decimal_two (n / 10) (omega arith) (omega arith), first)

pub decimal_four : (n : ℕ) → 1000 ≤ n → n < 10000 → decimal n ≡ last_four n
decimal_four n large small =
    let first : n / 10 / 100 % 10 ≡ n / 1000 = omega arith in
    let second : n / 10 / 10 % 10 ≡ n / 100 % 10 = omega arith in
    rw (decimal_step n (omega arith) (omega arith), decimal_three (n / 10) (omega arith) (omega arith), first, second)

-- a number of more digits: its first ones, and the last four
pub decimal_long : (n : ℕ) → 10000 ≤ n → n < 2 ^ 64 → decimal n ≡ decimal (n / 10000) ++ last_four (n % 10000)
decimal_long n large bound =
    let front : n / 10 / 10 / 10 / 10 ≡ n / 10000 = omega arith in
    let first : n / 10 / 10 / 10 % 10 ≡ n % 10000 / 1000 = omega arith in
    let second : n / 10 / 10 % 10 ≡ n % 10000 / 100 % 10 = omega arith in
    let third : n / 10 % 10 ≡ n % 10000 / 10 % 10 = omega arith in
    let fourth : n % 10 ≡ n % 10000 % 10 = omega arith in
    rw (
      decimal_step n (omega arith) bound,
      decimal_step (n / 10) (omega arith) (omega arith),
      decimal_step (n / 10 / 10) (omega arith) (omega arith),
      decimal_step (n / 10 / 10 / 10) (omega arith) (omega arith),
      append_assoc,
      append_assoc,
      append_assoc,
      front,
      first,
      second,
      third,
      ← fourth,
    )

-- a number of more than eight
pub decimal_longest : (n : ℕ) → 100000000 ≤ n → n < 2 ^ 64 →
    decimal n ≡ (decimal (n / 100000000) ++ last_four (n / 10000 % 10000)) ++ last_four (n % 10000)
decimal_longest n large bound =
    let front : n / 10000 / 10000 ≡ n / 100000000 = omega arith in
    rw (decimal_long n (omega arith) bound, decimal_long (n / 10000) (omega arith) (omega arith), front)
