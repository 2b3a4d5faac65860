-- What the words of a line read as is in its range.
use Rattle.std.proofs.Common.{◌≡◌, ℕ, suc, ◌+◌, ◌-◌, ◌*◌, ◌≤◌, Bool, true, false, cond, not, ◌&&◌, nat_le, nat_lt, eqb, List, [], ◌∷◌, length, drop, Option, Some, None, Result, Ok, refl, ap, arith, codes, ◌%◌}
use Rattle.std.specs.List.{list_all, starts_with}
use Rattle.std.proofs.lemmas.Bool.{leb-true, le-leb}
use Rattle.fsw_base.specs.declared.script_faults.FaultKind.{FaultKind}
use Rattle.fsw_base.specs.declared.script_faults.FaultKind.TheVariants.{BadWord, OutOfRange, WrongCount}
use Rattle.script_words.specs.Text.{is_same}
use Rattle.script_words.specs.Lists.{each}
use Rattle.script_words.specs.Counts.{Word, next, none, one, two, three, next_two, few}
use Rattle.script_words.specs.Numbers.{is_digit, is_upper_digit, is_lower_digit, is_hex_digit, digit_value, value_in, is_hexadecimal, is_decimal, small, number_of, register_of, within, is_hex, hex_bytes, parts_of, numbers_2, pipe_of, buffer_of, pool_of, grant_of, table_of}
use Rattle.script_words.specs.Content.{name_of, filling_of, content_of}
use Rattle.script_lines.specs.BusLines.{hex_word}
use Rattle.script_lines.specs.Ranges.{is_visible, is_name, is_spelled, is_content}
use Rattle.script_lines.proofs.Booleans.{and_first, and_second, both, at_most}
use Rattle.script_lines.proofs.ReadingLaws.{Holds, then, any, guard, either, accept, decides}

-- ---- numbers

pub number_in : (word : List ℕ) → Holds (λ n. nat_le n 4294967295 ≡ true) (number_of word)
unfolding number_of
number_in word =
    let fits : (n : ℕ) → Holds (λ n. nat_le n 4294967295 ≡ true) (small n) = λ n. guard (λ m. nat_le m 4294967295 ≡ true) (nat_le n 4294967295) n BadWord (λ h. h) in
    either (λ n. nat_le n 4294967295 ≡ true) (starts_with (λ a b. eqb a b) word (48 ∷ 120 ∷ [])) _ _
    (accept _ (is_hexadecimal (drop 2 word)) (small (value_in 16 (drop 2 word))) BadWord (λ h. fits (value_in 16 (drop 2 word))))
    (accept _ (is_decimal word) (small (value_in 10 word)) BadWord (λ h. fits (value_in 10 word)))

pub within_in : (low high n : ℕ) → Holds (λ m. (nat_le low m && nat_le m high) ≡ true) (within low high n)
unfolding within
within_in low high n = guard (λ m. (nat_le low m && nat_le m high) ≡ true) (nat_le low n && nat_le n high) n OutOfRange (λ h. h)

pub below_in : (high n : ℕ) → Holds (λ m. nat_le m high ≡ true) (within 0 high n)
unfolding within
below_in high n = guard (λ m. nat_le m high ≡ true) (nat_le 0 n && nat_le n high) n OutOfRange (λ h. and_second (nat_le 0 n) (nat_le n high) h)

register_in : (letter count : ℕ) (word : List ℕ) → Holds (λ n. nat_lt n count ≡ true) (register_of letter count word)
unfolding register_of
register_in letter count [] = tt
register_in letter count (first ∷ digits) =
    guard (λ n. nat_lt n count ≡ true) (eqb first letter && is_decimal digits && nat_lt (value_in 10 digits) count) (value_in 10 digits) BadWord
    (λ h. and_second (eqb first letter && is_decimal digits) (nat_lt (value_in 10 digits) count) h)

pub pipe_in : (word : List ℕ) → Holds (λ n. nat_lt n 64 ≡ true) (pipe_of word)
unfolding pipe_of
pipe_in word = register_in 112 64 word

pub buffer_in : (word : List ℕ) → Holds (λ n. nat_lt n 64 ≡ true) (buffer_of word)
unfolding buffer_of
buffer_in word = register_in 98 64 word

pub pool_in : (word : List ℕ) → Holds (λ n. nat_lt n 8 ≡ true) (pool_of word)
unfolding pool_of
pool_in word = register_in 113 8 word

pub grant_in : (word : List ℕ) → Holds (λ n. nat_lt n 64 ≡ true) (grant_of word)
unfolding grant_of
grant_in word = register_in 109 64 word

pub table_in : (word : List ℕ) → Holds (λ n. nat_lt n 64 ≡ true) (table_of word)
unfolding table_of
table_in word = register_in 116 64 word

-- ---- bytes

digit_small : (byte : ℕ) → digit_value byte ≤ 15
unfolding digit_value
digit_small byte = decide (is_digit byte) (is_upper_digit byte) (is_lower_digit byte) (at_most 48 57 byte) (at_most 65 70 byte) (at_most 97 102 byte)
  where
    decide : (a b c : Bool) → (a ≡ true → byte ≤ 57) → (b ≡ true → byte ≤ 70) → (c ≡ true → byte ≤ 102) → cond a (byte - 48) (cond b (byte - 55) (cond c (byte - 87) 0)) ≤ 15
    decide true b c digit upper lower = let h = digit refl in omega arith
    decide false true c digit upper lower = let h = upper refl in omega arith
    decide false false true digit upper lower = let h = lower refl in omega arith
    decide false false false digit upper lower = omega arith

bytes_small : (word : Word) → list_all (λ byte. nat_le byte 255) (hex_bytes word) ≡ true
bytes_small [] = refl
bytes_small (high ∷ []) = refl
bytes_small (high ∷ low ∷ digits) =
    let a = digit_small high in
    let b = digit_small low in
    both (le-leb (16 * digit_value high + digit_value low) 255 (small_byte (digit_value high) (digit_value low) a b)) (bytes_small digits)
  where
    small_byte : (a b : ℕ) → a ≤ 15 → b ≤ 15 → 16 * a + b ≤ 255
    small_byte a b one other = omega (arith, one, other)

-- half as many bytes as digits
half : (word : Word) → (2 * length (hex_bytes word) ≤ length word) × (length word ≤ 2 * length (hex_bytes word) + 1)
half [] = (omega arith, omega arith)
half (high ∷ []) = (omega arith, omega arith)
half (high ∷ low ∷ digits) =
    let h = half digits in
    let less = h.0 in
    let more = h.1 in
    (omega (arith, less), omega (arith, more))

pub spelled_in : (word : Word) → is_hex word ≡ true → is_spelled (hex_bytes word) ≡ true
unfolding is_hex
spelled_in word h =
    let three = and_first (eqb (length word % 2) 0 && nat_le 2 (length word) && nat_le (length word) 512) (list_all is_hex_digit word) h in
    let short = leb-true (length word) 512 (and_second (eqb (length word % 2) 0 && nat_le 2 (length word)) (nat_le (length word) 512) three) in
    let some = leb-true 2 (length word) (and_second (eqb (length word % 2) 0) (nat_le 2 (length word)) (and_first (eqb (length word % 2) 0 && nat_le 2 (length word)) (nat_le (length word) 512) three)) in
    let sizes = half word in
    both (both (le-leb 1 (length (hex_bytes word)) (least (length word) (length (hex_bytes word)) some sizes.1)) (le-leb (length (hex_bytes word)) 256 (most (length word) (length (hex_bytes word)) short sizes.0))) (bytes_small word)
  where
    least : (n m : ℕ) → 2 ≤ n → n ≤ 2 * m + 1 → 1 ≤ m
    least n m a b = omega (arith, a, b)

    most : (n m : ℕ) → n ≤ 512 → 2 * m ≤ n → m ≤ 256
    most n m a b = omega (arith, a, b)

pub hex_word_in : (word : Word) → Holds (λ u. is_spelled (hex_bytes word) ≡ true) (hex_word word)
unfolding hex_word
hex_word_in word = guard _ (is_hex word) tt BadWord (spelled_in word)

-- ---- names and contents

pub name_in : (word : Word) → list_all is_visible word ≡ true → Holds (λ name. is_name name ≡ true) (name_of word)
unfolding name_of
name_in word visible =
    decides (λ name. is_name name ≡ true) (is_same word (codes "-")) (Ok []) _ (λ h. refl)
    (λ other. guard (λ name. is_name name ≡ true) (nat_le (length word) 64) word OutOfRange (λ short. both (both short visible) (ap not other)))

-- no filling only if the word spells bytes
pub filling_in : (word : Word) → Holds (λ filling. filling ≡ None → is_hex word ≡ true) (filling_of word)
unfolding filling_of
filling_in word =
    either (λ filling. filling ≡ None → is_hex word ≡ true) (starts_with (λ a b. eqb a b) word (codes "fill:")) _ _
    (any _ (numbers_2 (parts_of (drop 5 word))) _ (λ fill e. absurd cc))
    (guard (λ filling. filling ≡ None → is_hex word ≡ true) (is_hex word) None BadWord (λ h e. h))

pub content_in : (word : Word) (filling : Option (ℕ × ℕ)) → (filling ≡ None → is_hex word ≡ true) → Holds (λ content. is_content content ≡ true) (content_of word filling)
unfolding content_of
content_in word None spells = spelled_in word (spells refl)
content_in word (Some fill) spells = then _ _ (within 1 65536 fill.0) _ (within_in 1 65536 fill.0) (λ len a. then _ _ (within 0 255 fill.1) _ (below_in 255 fill.1) (λ byte b. both a b))

-- ---- words of a line

abbrev pub are_visible : List Word → Bool
are_visible words = list_all (list_all is_visible) words

pub next_visible : (words : List Word) → are_visible words ≡ true → Holds (λ w. (list_all is_visible w.0 ≡ true) × (are_visible w.1 ≡ true)) (next words)
unfolding next
next_visible [] h = tt
next_visible (word ∷ words) h = (and_first (list_all is_visible word) (are_visible words) h, and_second (list_all is_visible word) (are_visible words) h)

one_visible : (words : List Word) → are_visible words ≡ true → Holds (λ w. list_all is_visible w ≡ true) (one words)
unfolding one
one_visible words h = then _ _ (next words) _ (next_visible words h) (λ first v. any _ (none first.1) _ (λ end. v.0))

pub two_visible : (words : List Word) → are_visible words ≡ true → Holds (λ w. list_all is_visible w.1 ≡ true) (two words)
unfolding two
two_visible words h = then _ _ (next words) _ (next_visible words h) (λ first v. then _ _ (one first.1) _ (one_visible first.1 v.1) (λ second g. g))

pub three_visible : (words : List Word) → are_visible words ≡ true → Holds (λ w. list_all is_visible w.2 ≡ true) (three words)
unfolding three
three_visible words h = then _ _ (next words) _ (next_visible words h) (λ first v. then _ _ (two first.1) _ (two_visible first.1 v.1) (λ others g. g))

pub next_two_visible : (words : List Word) → are_visible words ≡ true → Holds (λ w. list_all is_visible w.1 ≡ true) (next_two words)
unfolding next_two
next_two_visible words h = then _ _ (next words) _ (next_visible words h) (λ first v. then _ _ (next first.1) _ (next_visible first.1 v.1) (λ second g. g.0))

pub few_in : (most : ℕ) (words : List Word) → Holds (λ u. nat_le (length words) most ≡ true) (few most words)
unfolding few
few_in most words = guard _ (nat_le (length words) most) tt WrongCount (λ h. h)

-- ---- each item of a list

pub each_in : {X A : Type 0} (read : X → Result A FaultKind) (q : A → Bool) → ((x : X) → Holds (λ a. q a ≡ true) (read x)) → (xs : List X) → Holds (λ as_. (length as_ ≡ length xs) × (list_all q as_ ≡ true)) (each read xs)
unfolding each
each_in read q reads [] = (refl, refl)
each_in read q reads (x ∷ xs) = then _ _ (read x) _ (reads x) (λ a h. then _ _ (each read xs) _ (each_in read q reads xs) (λ others g. (ap suc g.0, both h g.1)))
