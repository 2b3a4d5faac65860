-- Texts of bytes in a range, and the one way to split a text at its first separator.
use Rattle.std.proofs.Common.{◌≡◌, ℕ, zero, suc, ◌+◌, ◌/◌, ◌%◌, ◌<◌, ◌≤◌, ◌&&◌, nat_le, nat_eq, Bool, true, false, cond, List, [], ◌∷◌, ◌++◌, refl, ap, ◌∙◌, arith, append_assoc}
use Rattle.std.specs.List.{list_all}
use Rattle.std.specs.Fmt.{decimal, digits, digits_onto, digit_glyph}
use Rattle.std.proofs.lemmas.Bool.{leb-true, le-leb}
use Rattle.std.proofs.lemmas.List.Folds.{list_all-append}

-- whether no byte is below this one
abbrev pub above : ℕ → List ℕ → Bool
above low text = list_all (λ byte. nat_le low byte) text

-- whether each byte is in the range
abbrev pub within : ℕ → ℕ → List ℕ → Bool
within low high text = list_all (λ byte. nat_le low byte && nat_le byte high) text

both_true : {a b : Bool} → a ≡ true → b ≡ true → (a && b) ≡ true
both_true {a} {b} first second = ap (λ x. x && b) first ∙ second

pub and_first : (a b : Bool) → (a && b) ≡ true → a ≡ true
and_first true b holds = refl
and_first false b holds = holds

pub and_second : (a b : Bool) → (a && b) ≡ true → b ≡ true
and_second true b holds = holds
and_second false b holds = absurd (cc holds)

-- the first byte, and the others
above-cons : (low x : ℕ) (xs : List ℕ) → above low (x ∷ xs) ≡ true → (low ≤ x) × (above low xs ≡ true)
above-cons low x xs holds = (leb-true low x (and_first (nat_le low x) (above low xs) holds), and_second (nat_le low x) (above low xs) holds)

within-cons : (low high x : ℕ) (xs : List ℕ) → within low high (x ∷ xs) ≡ true → (low ≤ x) × (x ≤ high) × (within low high xs ≡ true)
within-cons low high x xs holds =
    let first = and_first (nat_le low x && nat_le x high) (within low high xs) holds in (
      leb-true low x (and_first (nat_le low x) (nat_le x high) first),
      leb-true x high (and_second (nat_le low x) (nat_le x high) first),
      and_second (nat_le low x && nat_le x high) (within low high xs) holds,
    )

pub above-append : (low : ℕ) (xs ys : List ℕ) → above low xs ≡ true → above low ys ≡ true → above low (xs ++ ys) ≡ true
above-append low xs ys first second = list_all-append (λ byte. nat_le low byte) xs ys ∙ both_true first second

pub above-from_within : (low high lower : ℕ) → lower ≤ low → (xs : List ℕ) → within low high xs ≡ true → above lower xs ≡ true
above-from_within low high lower below [] holds = refl
above-from_within low high lower below (x ∷ xs) holds =
    let parts = within-cons low high x xs holds in
    let from : lower ≤ x = omega (arith, parts.0) in
    both_true (le-leb lower x from) (above-from_within low high lower below xs parts.2)

-- a separator below all bytes ends the text before it: there is one way to split
pub split_once : (low separator : ℕ) (u v x y : List ℕ) → separator < low → above low u ≡ true → above low v ≡ true →
    u ++ separator ∷ x ≡ v ++ separator ∷ y → (u ≡ v) × (x ≡ y)
split_once low separator [] [] x y small first second same = (refl, cc same)
split_once low separator [] (c ∷ v) x y small first second same =
    let parts = above-cons low c v second in let equal : separator ≡ c = cc same in absurd (omega (arith, parts.0))
split_once low separator (c ∷ u) [] x y small first second same =
    let parts = above-cons low c u first in let equal : c ≡ separator = cc same in absurd (omega (arith, parts.0))
split_once low separator (c ∷ u) (d ∷ v) x y small first second same =
    let one = above-cons low c u first in
    let other = above-cons low d v second in
    let equal : c ≡ d = cc same in
    let rest : u ++ separator ∷ x ≡ v ++ separator ∷ y = cc same in
    let tails = split_once low separator u v x y small one.1 other.1 rest in
    (cc (equal, tails.0), tails.1)

-- the same of two and of three words with blanks between them
pub split_twice : (u v w z x y : List ℕ) → above 33 u ≡ true → above 33 v ≡ true → above 33 w ≡ true → above 33 z ≡ true →
    (u ++ 32 ∷ []) ++ w ++ 32 ∷ x ≡ (v ++ 32 ∷ []) ++ z ++ 32 ∷ y → x ≡ y
split_twice u v w z x y one other first second same =
    let rest : u ++ 32 ∷ (w ++ 32 ∷ x) ≡ v ++ 32 ∷ (z ++ 32 ∷ y) = simp append_assoc at same in
    (split_once 33 32 w z x y (omega arith) first second (split_once 33 32 u v (w ++ 32 ∷ x) (z ++ 32 ∷ y) (omega arith) one other rest).1).1

pub split_thrice : (u v w z s t x y : List ℕ) → above 33 u ≡ true → above 33 v ≡ true → above 33 w ≡ true → above 33 z ≡ true → above 33 s ≡ true → above 33 t ≡ true →
    (u ++ 32 ∷ []) ++ w ++ 32 ∷ [] ++ s ++ 32 ∷ x ≡ (v ++ 32 ∷ []) ++ z ++ 32 ∷ [] ++ t ++ 32 ∷ y → x ≡ y
split_thrice u v w z s t x y one other first second third fourth same =
    let rest : u ++ 32 ∷ (w ++ 32 ∷ (s ++ 32 ∷ x)) ≡ v ++ 32 ∷ (z ++ 32 ∷ (t ++ 32 ∷ y)) = simp append_assoc at same in
    let words = split_once 33 32 u v (w ++ 32 ∷ (s ++ 32 ∷ x)) (z ++ 32 ∷ (t ++ 32 ∷ y)) (omega arith) one other rest in
    let more = split_once 33 32 w z (s ++ 32 ∷ x) (t ++ 32 ∷ y) (omega arith) first second words.1 in
    (split_once 33 32 s t x y (omega arith) third fourth more.1).1

-- the digits of a number, whatever it is
glyph_low : (d : ℕ) → d < 10 → digit_glyph false d ≡ 48 + d
glyph_low d small = ap (λ b. cond {A = ℕ} b (48 + d) (87 + d)) (le-leb (suc d) 10 (omega arith))

onto_digits : (k n : ℕ) (acc : List ℕ) → within 48 57 acc ≡ true → within 48 57 (digits_onto k 10 false n acc) ≡ true
onto_digits zero n acc holds = holds
onto_digits (suc k) n acc holds = either (nat_eq (n / 10) 0) (digit_glyph false (n % 10) ∷ acc) (digits_onto k 10 false (n / 10) (digit_glyph false (n % 10) ∷ acc)) more (onto_digits k (n / 10) (digit_glyph false (n % 10) ∷ acc) more)
  where
    glyph : digit_glyph false (n % 10) ≡ 48 + n % 10
    glyph = glyph_low (n % 10) (omega arith)

    more : within 48 57 (digit_glyph false (n % 10) ∷ acc) ≡ true
    more = ap (λ c. within 48 57 (c ∷ acc)) glyph ∙ both_true (both_true (le-leb 48 (48 + n % 10) (omega arith)) (le-leb (48 + n % 10) 57 (omega arith))) holds

    either : (b : Bool) (xs ys : List ℕ) → within 48 57 xs ≡ true → within 48 57 ys ≡ true → within 48 57 (cond {A = List ℕ} b xs ys) ≡ true
    either true xs ys p q = p
    either false xs ys p q = q

decimal_within : (n : ℕ) → within 48 57 (decimal n) ≡ true
unfolding digits
decimal_within n = onto_digits 64 n [] refl

-- a number is a word, and has no line end
pub decimal_above : (low n : ℕ) → low ≤ 48 → above low (decimal n) ≡ true
decimal_above low n below = above-from_within 48 57 low below (decimal n) (decimal_within n)

-- no text that begins with a number begins with a letter
pub letter_not_decimal : (n c : ℕ) (x y : List ℕ) → 57 < c → decimal n ++ 32 ∷ x ≡ c ∷ y → ⊥
letter_not_decimal n c x y letter same = from (decimal n) (decimal_within n) same
  where
    from : (u : List ℕ) → within 48 57 u ≡ true → u ++ 32 ∷ x ≡ c ∷ y → ⊥
    from [] holds e = let equal : 32 ≡ c = cc e in omega arith
    from (d ∷ u) holds e = let parts = within-cons 48 57 d u holds in let equal : d ≡ c = cc e in omega (arith, parts.1)
