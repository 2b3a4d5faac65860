-- What the spellings of numbers, registers and bytes read as.
use Rattle.std.proofs.Common.{◌≡◌, ℕ, zero, suc, ◌+◌, ◌*◌, ◌/◌, ◌%◌, ◌<◌, ◌≤◌, ◌^◌, Bool, true, false, cond, not, ◌&&◌, ◌||◌, nat_le, nat_lt, eqb, List, [], ◌∷◌, ◌++◌, length, get_or, inl, inr, Ok, refl, sym, ap, ◌∙◌, subst, arith, decimal}
use Rattle.std.specs.List.{list_all, starts_with}
use Rattle.std.proofs.lemmas.Bool.{leb-true, le-leb, cases_lt, lt-leb, ltb-true, lt-ltb, le-ltb, eq-eqb}
use Rattle.std.proofs.lemmas.List.Sums.{fold_push}
use Rattle.std.proofs.lemmas.Fmt.{decimal_digit, decimal_step, first_decimal, decimal_nonempty, length-decimal-le}
use Rattle.text_page.specs.Texts.{hex_digit, hex_bytes, hex_id}
use Rattle.script_words.specs.Text.{has_bytes}
use Rattle.script_words.specs.Numbers.{is_digit, is_hex_digit, digit_value, value_in, is_decimal, is_hexadecimal, small, number_of, register_of, within, is_hex, pipe_of, buffer_of, pool_of, grant_of, table_of}
use Rattle.script_words.specs.Numbers as numbers
use Rattle.script_lines.specs.Ranges.{is_visible, is_spelled}
use Rattle.script_text.specs.Spelling.{pipe_word, buffer_word, pool_word, grant_word, table_word}
use Rattle.script_lines.proofs.Booleans.{and_first, and_second, both, all_append, all_weaker, between, at_least, at_most, differ}
use Rattle.script_text.proofs.WordLemmas.{IsWord}

-- ---- decimal digits

-- what holds of one digit, and of a number with one digit more
by_digits : (P : ℕ → List ℕ → Type 0) → ((n : ℕ) → n < 10 → P n ((48 + n) ∷ [])) → ((n : ℕ) (front : List ℕ) → 10 ≤ n → P (n / 10) front → P n (front ++ (48 + n % 10) ∷ [])) → (fuel n : ℕ) → n ≤ fuel → n < 2 ^ 64 → P n (decimal n)
by_digits P one more zero n less small = subst (λ (l : List ℕ). P n l) (sym (decimal_digit n (omega arith))) (one n (omega arith))
by_digits P one more (suc fuel) n less small =
    elim (cases_lt n 10) [
      | inl lt ↦ subst (λ (l : List ℕ). P n l) (sym (decimal_digit n lt)) (one n lt)
      | inr le ↦ subst (λ (l : List ℕ). P n l) (sym (decimal_step n le small)) (more n (decimal (n / 10)) le (by_digits P one more fuel (n / 10) (omega arith) (omega arith)))
    ]

digit_here : (n : ℕ) → n < 10 → is_digit (48 + n) ≡ true
digit_here n less = between 48 57 (48 + n) (omega arith) (omega arith)

pub decimal_digits : (n : ℕ) → n < 2 ^ 64 → list_all is_digit (decimal n) ≡ true
decimal_digits n small =
    by_digits (λ m l. list_all is_digit l ≡ true)
    (λ m less. both (digit_here m less) refl)
    (λ m front le all. all_append is_digit front ((48 + m % 10) ∷ []) all (both (digit_here (m % 10) (omega arith)) refl))
    n n (omega arith) small

value_here : (n : ℕ) → n < 10 → digit_value (48 + n) ≡ n
unfolding digit_value
value_here n less = let d = digit_here n less in rw d (omega arith)

pub decimal_value : (n : ℕ) → n < 2 ^ 64 → value_in 10 (decimal n) ≡ n
decimal_value n small =
    by_digits (λ m l. value_in 10 l ≡ m)
    (λ m less. let v = value_here m less in omega arith)
    (λ m front le so_far. fold_push (λ v d. v * 10 + digit_value d) 0 front (48 + m % 10) ∙ ap (λ v. v * 10 + digit_value (48 + m % 10)) so_far ∙ ap (λ v. m / 10 * 10 + v) (value_here (m % 10) (omega arith)) ∙ omega arith)
    n n (omega arith) small

digit_visible : (byte : ℕ) → is_digit byte ≡ true → is_visible byte ≡ true
digit_visible byte h = let low = at_least 48 57 byte h in let high = at_most 48 57 byte h in between 33 126 byte (omega arith) (omega arith)

some_bytes : (bytes : List ℕ) → 0 < length bytes → has_bytes bytes ≡ true
some_bytes [] some = absurd (omega arith)
some_bytes (byte ∷ bytes) some = refl

-- no leading 0
form_of_digits : (ds : List ℕ) → list_all is_digit ds ≡ true → 0 < length ds → 48 < get_or ds 0 0 → is_decimal ds ≡ true
unfolding is_decimal
form_of_digits [] all some first = absurd (omega arith)
form_of_digits (d ∷ ds) all some first = let other : eqb d 48 ≡ false = differ d 48 (λ e. omega arith) in both all (ap (λ b. not b || not (has_bytes ds)) other)

nought : is_decimal (48 ∷ []) ≡ true
unfolding is_decimal
nought = refl

pub decimal_form : (n : ℕ) → n < 2 ^ 64 → is_decimal (decimal n) ≡ true
decimal_form zero small = ap is_decimal (decimal_digit 0 (omega arith)) ∙ nought
decimal_form (suc n) small = form_of_digits (decimal (suc n)) (decimal_digits (suc n) small) (decimal_nonempty (suc n) small) (first_decimal (suc n) (omega arith) small)

-- no decimal number begins as hexadecimal ones do
no_prefix : (ds : List ℕ) → list_all is_digit ds ≡ true → starts_with (λ a b. eqb a b) ds (48 ∷ 120 ∷ []) ≡ false
no_prefix [] all = refl
no_prefix (d ∷ []) all = elim (eqb 48 d) as (λ b. (b && false) ≡ false) [ true ↦ refl | false ↦ refl ]
no_prefix (d ∷ e ∷ ds) all =
    let high = at_most 48 57 e (and_first (is_digit e) (list_all is_digit ds) (and_second (is_digit d) (list_all is_digit (e ∷ ds)) all)) in
    let other : eqb 120 e ≡ false = differ 120 e (λ same. omega arith) in
    ap (λ b. eqb 48 d && (b && true)) other ∙ elim (eqb 48 d) as (λ b. (b && false) ≡ false) [ true ↦ refl | false ↦ refl ]

small_number : (n : ℕ) → n ≤ 4294967295 → small n ≡ Ok n
small_number n le = let b = le-leb n 4294967295 le in rw b refl

pub number_of-decimal : (n : ℕ) → n ≤ 4294967295 → number_of (decimal n) ≡ Ok n
unfolding number_of
number_of-decimal n le =
    let none = no_prefix (decimal n) (decimal_digits n (omega arith)) in
    let form = decimal_form n (omega arith) in
    rw (none, form) (ap small (decimal_value n (omega arith)) ∙ small_number n le)

pub decimal_word : (n : ℕ) → n ≤ 4294967295 → IsWord 10 (decimal n)
decimal_word n le = record {
  form = both (some_bytes (decimal n) (decimal_nonempty n (omega arith))) (all_weaker is_digit is_visible digit_visible (decimal n) (decimal_digits n (omega arith)));
  short = length-decimal-le 10 n (omega arith) (omega arith) (omega arith);
}

-- a number in its range
pub number_reads : (most n : ℕ) → nat_le n most ≡ true → nat_le most 4294967295 ≡ true → number_of (decimal n) ≡ Ok n
number_reads most n le small = let a = leb-true n most le in let b = leb-true most 4294967295 small in number_of-decimal n (omega arith)

pub number_fits : (most n : ℕ) → nat_le n most ≡ true → nat_le most 4294967295 ≡ true → IsWord 10 (decimal n)
number_fits most n le small = let a = leb-true n most le in let b = leb-true most 4294967295 small in decimal_word n (omega arith)

pub within_reads : (low high n : ℕ) → nat_le low n ≡ true → nat_le n high ≡ true → within low high n ≡ Ok n
unfolding within
within_reads low high n from to = rw (from, to) refl

pub within_most : (high n : ℕ) → nat_le n high ≡ true → within 0 high n ≡ Ok n
within_most high n to = within_reads 0 high n (le-leb 0 n (omega arith)) to

-- ---- registers

register_reads : (letter count n : ℕ) → count ≤ 64 → nat_lt n count ≡ true → register_of letter count (letter ∷ decimal n) ≡ Ok n
unfolding register_of
register_reads letter count n few lt =
    let less = ltb-true n count lt in
    let same = eq-eqb letter letter refl in
    let form = decimal_form n (omega arith) in
    let value = decimal_value n (omega arith) in
    rw (same, form, value, lt) refl

register_fits : (letter count n : ℕ) → is_visible letter ≡ true → count ≤ 64 → nat_lt n count ≡ true → IsWord 11 (letter ∷ decimal n)
register_fits letter count n visible few lt =
    let less = ltb-true n count lt in
    let number = decimal_word n (omega arith) in
    record {
      form = both visible (and_second (has_bytes (decimal n)) (list_all is_visible (decimal n)) number.form);
      short = let short = number.short in omega arith;
    }

pub pipe_reads : (n : ℕ) → nat_lt n 64 ≡ true → pipe_of (pipe_word n) ≡ Ok n
unfolding pipe_of
pipe_reads n lt = register_reads 112 64 n (omega arith) lt

pub buffer_reads : (n : ℕ) → nat_lt n 64 ≡ true → buffer_of (buffer_word n) ≡ Ok n
unfolding buffer_of
buffer_reads n lt = register_reads 98 64 n (omega arith) lt

pub pool_reads : (n : ℕ) → nat_lt n 8 ≡ true → pool_of (pool_word n) ≡ Ok n
unfolding pool_of
pool_reads n lt = register_reads 113 8 n (omega arith) lt

pub grant_reads : (n : ℕ) → nat_lt n 64 ≡ true → grant_of (grant_word n) ≡ Ok n
unfolding grant_of
grant_reads n lt = register_reads 109 64 n (omega arith) lt

pub table_reads : (n : ℕ) → nat_lt n 64 ≡ true → table_of (table_word n) ≡ Ok n
unfolding table_of
table_reads n lt = register_reads 116 64 n (omega arith) lt

pub pipe_fits : (n : ℕ) → nat_lt n 64 ≡ true → IsWord 11 (pipe_word n)
pipe_fits n lt = register_fits 112 64 n refl (omega arith) lt

pub buffer_fits : (n : ℕ) → nat_lt n 64 ≡ true → IsWord 11 (buffer_word n)
buffer_fits n lt = register_fits 98 64 n refl (omega arith) lt

pub pool_fits : (n : ℕ) → nat_lt n 8 ≡ true → IsWord 11 (pool_word n)
pool_fits n lt = register_fits 113 8 n refl (omega arith) lt

pub grant_fits : (n : ℕ) → nat_lt n 64 ≡ true → IsWord 11 (grant_word n)
grant_fits n lt = register_fits 109 64 n refl (omega arith) lt

pub table_fits : (n : ℕ) → nat_lt n 64 ≡ true → IsWord 11 (table_word n)
table_fits n lt = register_fits 116 64 n refl (omega arith) lt

-- ---- hexadecimal digits

-- what holds of the digit of a number below 16
pub record IsDigitOf (n byte : ℕ) : Type 0 where
  pub value : digit_value byte ≡ n
  pub form : is_hex_digit byte ≡ true
  pub low : 48 ≤ byte
  pub high : byte ≤ 102
  pub no_colon : eqb byte 58 ≡ false

low_digit : (n : ℕ) → n < 10 → IsDigitOf n (48 + n)
low_digit n less = record {
  value = value_here n less;
  form = let d = digit_here n less in ap (λ b. b || (nat_le 65 (48 + n) && nat_le (48 + n) 70) || (nat_le 97 (48 + n) && nat_le (48 + n) 102)) d;
  low = omega arith;
  high = omega arith;
  no_colon = differ (48 + n) 58 (λ e. omega arith);
}

high_digit : (n : ℕ) → 10 ≤ n → n < 16 → IsDigitOf n (87 + n)
unfolding digit_value
high_digit n ten less =
    let none : nat_le (87 + n) 57 ≡ false = lt-leb (87 + n) 57 (omega arith) in
    let upper : nat_le (87 + n) 70 ≡ false = lt-leb (87 + n) 70 (omega arith) in
    let a = le-leb 48 (87 + n) (omega arith) in
    let b = le-leb 65 (87 + n) (omega arith) in
    let d = le-leb 97 (87 + n) (omega arith) in
    let e = le-leb (87 + n) 102 (omega arith) in
    record {
      value = rw (a, none, b, upper, d, e) (omega arith);
      form = rw (a, none, b, upper, d, e) refl;
      low = omega arith;
      high = omega arith;
      no_colon = differ (87 + n) 58 (λ same. omega arith);
    }

pub hex_here : (n : ℕ) → n < 16 → IsDigitOf n (hex_digit n)
hex_here n less =
    elim (cases_lt n 10) [
      | inl lt ↦ subst (λ (x : ℕ). IsDigitOf n x) (sym (ap (λ b. cond b (48 + n) (87 + n)) (lt-ltb n 10 lt))) (low_digit n lt)
      | inr le ↦ subst (λ (x : ℕ). IsDigitOf n x) (sym (ap (λ b. cond b (48 + n) (87 + n)) (le-ltb n 10 le))) (high_digit n le less)
    ]

pub hex_visible : (n : ℕ) → n < 16 → is_visible (hex_digit n) ≡ true
hex_visible n less = let d = hex_here n less in between 33 126 (hex_digit n) (let low = d.low in omega arith) (let high = d.high in omega arith)

-- the value of four digits
four_value : (a b c d : ℕ) → a < 16 → b < 16 → c < 16 → d < 16 → value_in 16 (hex_digit a ∷ hex_digit b ∷ hex_digit c ∷ hex_digit d ∷ []) ≡ ((a * 16 + b) * 16 + c) * 16 + d
four_value a b c d one two three four =
    let p = (hex_here a one).value in let q = (hex_here b two).value in let r = (hex_here c three).value in let s = (hex_here d four).value in
    rw (p, q, r, s) (omega arith)

four_form : (a b c d : ℕ) → a < 16 → b < 16 → c < 16 → d < 16 → is_hexadecimal (hex_digit a ∷ hex_digit b ∷ hex_digit c ∷ hex_digit d ∷ []) ≡ true
four_form a b c d one two three four =
    both (hex_here a one).form (both (hex_here b two).form (both (hex_here c three).form (both (hex_here d four).form refl)))

pub number_of-hex : (id : ℕ) → id ≤ 65535 → number_of (hex_id id) ≡ Ok id
unfolding number_of
number_of-hex id le =
    let a = id / 256 / 16 in let b = id / 256 % 16 in let c = id % 256 / 16 in let d = id % 256 % 16 in
    let form = four_form (id / 256 / 16) (id / 256 % 16) (id % 256 / 16) (id % 256 % 16) (omega arith) (omega arith) (omega arith) (omega arith) in
    let value = four_value (id / 256 / 16) (id / 256 % 16) (id % 256 / 16) (id % 256 % 16) (omega arith) (omega arith) (omega arith) (omega arith) in
    let same : ((id / 256 / 16 * 16 + id / 256 % 16) * 16 + id % 256 / 16) * 16 + id % 256 % 16 ≡ id = omega arith in
    rw form (ap small (value ∙ same) ∙ small_number id (omega arith))

pub id_reads : (id : ℕ) → nat_le id 65535 ≡ true → number_of (hex_id id) ≡ Ok id
id_reads id le = number_of-hex id (leb-true id 65535 le)

pub id_fits : (id : ℕ) → nat_le id 65535 ≡ true → IsWord 6 (hex_id id)
id_fits id le =
    let small = leb-true id 65535 le in
    record {
      form = both (hex_visible (id / 256 / 16) (omega arith)) (both (hex_visible (id / 256 % 16) (omega arith)) (both (hex_visible (id % 256 / 16) (omega arith)) (both (hex_visible (id % 256 % 16) (omega arith)) refl)));
      short = omega arith;
    }

-- ---- bytes as digits

abbrev pub is_byte : ℕ → Bool
is_byte byte = nat_le byte 255

pub hex_text_bytes : (bytes : List ℕ) → list_all (λ byte. nat_le byte 255) bytes ≡ true → numbers.hex_bytes (hex_bytes bytes) ≡ bytes
hex_text_bytes [] all = refl
hex_text_bytes (byte ∷ bytes) all =
    let small = leb-true byte 255 (and_first (nat_le byte 255) (list_all (λ b. nat_le b 255) bytes) all) in
    let high = (hex_here (byte / 16) (omega arith)).value in
    let low = (hex_here (byte % 16) (omega arith)).value in
    let same : 16 * digit_value (hex_digit (byte / 16)) + digit_value (hex_digit (byte % 16)) ≡ byte = rw (high, low) (omega arith) in
    ap (λ b. b ∷ numbers.hex_bytes (hex_bytes bytes)) same ∙ ap (λ l. byte ∷ l) (hex_text_bytes bytes (and_second (nat_le byte 255) (list_all (λ b. nat_le b 255) bytes) all))

hex_text_length : (bytes : List ℕ) → length (hex_bytes bytes) ≡ 2 * length bytes
hex_text_length [] = refl
hex_text_length (byte ∷ bytes) = let more = hex_text_length bytes in omega arith

hex_text_digits : (p : ℕ → Bool) → ((n : ℕ) → n < 16 → p (hex_digit n) ≡ true) → (bytes : List ℕ) → list_all (λ byte. nat_le byte 255) bytes ≡ true → list_all p (hex_bytes bytes) ≡ true
hex_text_digits p digit [] all = refl
hex_text_digits p digit (byte ∷ bytes) all =
    let small = leb-true byte 255 (and_first (nat_le byte 255) (list_all (λ b. nat_le b 255) bytes) all) in
    both (digit (byte / 16) (omega arith)) (both (digit (byte % 16) (omega arith)) (hex_text_digits p digit bytes (and_second (nat_le byte 255) (list_all (λ b. nat_le b 255) bytes) all)))

pub hex_text_form : (bytes : List ℕ) → is_spelled bytes ≡ true → is_hex (hex_bytes bytes) ≡ true
unfolding is_hex
hex_text_form bytes h =
    let counts = and_first (nat_le 1 (length bytes) && nat_le (length bytes) 256) (list_all (λ byte. nat_le byte 255) bytes) h in
    let some = leb-true 1 (length bytes) (and_first (nat_le 1 (length bytes)) (nat_le (length bytes) 256) counts) in
    let few = leb-true (length bytes) 256 (and_second (nat_le 1 (length bytes)) (nat_le (length bytes) 256) counts) in
    let twice = hex_text_length bytes in
    let even : eqb (length (hex_bytes bytes) % 2) 0 ≡ true = eq-eqb (length (hex_bytes bytes) % 2) 0 (omega arith) in
    both (both (both even (le-leb 2 (length (hex_bytes bytes)) (omega arith))) (le-leb (length (hex_bytes bytes)) 512 (omega arith)))
    (hex_text_digits is_hex_digit (λ n less. (hex_here n less).form) bytes (and_second _ _ h))

pub hex_text_fits : (bytes : List ℕ) → is_spelled bytes ≡ true → IsWord 512 (hex_bytes bytes)
hex_text_fits bytes h =
    let counts = and_first (nat_le 1 (length bytes) && nat_le (length bytes) 256) (list_all (λ byte. nat_le byte 255) bytes) h in
    let some = leb-true 1 (length bytes) (and_first (nat_le 1 (length bytes)) (nat_le (length bytes) 256) counts) in
    let few = leb-true (length bytes) 256 (and_second (nat_le 1 (length bytes)) (nat_le (length bytes) 256) counts) in
    let twice = hex_text_length bytes in
    record {
      form = both (some_bytes (hex_bytes bytes) (omega arith)) (hex_text_digits is_visible hex_visible bytes (and_second _ _ h));
      short = omega arith;
    }

pub hex_text_reads : (bytes : List ℕ) → is_spelled bytes ≡ true → numbers.hex_bytes (hex_bytes bytes) ≡ bytes
hex_text_reads bytes h = hex_text_bytes bytes (and_second _ _ h)
