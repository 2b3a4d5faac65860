-- Laws of lines and words.
use Rattle.std.proofs.Common.{◌≡◌, ℕ, zero, suc, ◌+◌, ◌-◌, ◌<◌, ◌≤◌, Bool, true, false, cond, not, ◌&&◌, List, [], ◌∷◌, length, map, take, drop, get_or, Option, Some, None, refl, sym, ap, ◌∙◌, arith, inl, inr}
use Rattle.std.specs.Prelude.{filter, position, ◌==◌, ◌||◌}
use Rattle.std.specs.List.{slice_split, position_or_len, onto_first, list_all, ends_with}
use Rattle.std.proofs.lemmas.Bool.{cases_lt, lt-ltb, le-ltb, eq-eqb, ne_eqb}
use Rattle.std.proofs.lemmas.List.{drop_all, length-drop}
use Rattle.std.proofs.lemmas.List.Sums.{prefix_len-le-length, position_or_len_is}
use Rattle.std.proofs.lemmas.List.Splits.{slice_split_first}
use Rattle.memchr.specs.Find.{IsFirstByte}
use Rattle.script_words.proofs.ListLemmas.{drop_cut}
use Rattle.script_words.specs.Text.{is_feed, is_blank, is_no_blank, is_text, is_same, without_return, has_bytes, without_empty_last, lines_of, words_of, from_word}

-- the place where a test passes first, or the length
pub place_some : {X : Type 0} (p : X → Bool) (xs : List X) (i : ℕ) → position p xs ≡ Some i → (position_or_len p xs ≡ i) × (i < length xs)
place_some p xs i e =
    elim (cases_lt (position_or_len p xs) (length xs)) [
      | inl lt ↦
          let test = lt-ltb _ _ lt in
          let same : position_or_len p xs ≡ i = let f : cond true (Some (position_or_len p xs)) None ≡ Some i = ap (λ b. cond b (Some (position_or_len p xs)) None) (sym test) ∙ e in cc in
          (same, omega arith)
      | inr le ↦
          let test = le-ltb _ _ le in
          let f : cond false (Some (position_or_len p xs)) None ≡ Some i = ap (λ b. cond b (Some (position_or_len p xs)) None) (sym test) ∙ e in
          absurd cc
    ]

pub place_none : {X : Type 0} (p : X → Bool) (xs : List X) → position p xs ≡ None → position_or_len p xs ≡ length xs
place_none p xs e =
    elim (cases_lt (position_or_len p xs) (length xs)) [
      | inl lt ↦
          let test = lt-ltb _ _ lt in
          let f : cond true (Some (position_or_len p xs)) None ≡ None = ap (λ b. cond b (Some (position_or_len p xs)) None) (sym test) ∙ e in
          absurd cc
      | inr le ↦ omega (arith, prefix_len-le-length (λ x. not (p x)) xs)
    ]

-- a list is cut into one part at least
pub split_parts : (test : ℕ → Bool) (bytes : List ℕ) → (part : List ℕ) × (parts : List (List ℕ)) × (slice_split test bytes ≡ part ∷ parts)
split_parts test [] = ([], [], refl)
split_parts test (byte ∷ bytes) =
    elim (test byte) as (λ b. (part : List ℕ) × (parts : List (List ℕ)) × (cond b ([] ∷ slice_split test bytes) (onto_first byte (slice_split test bytes)) ≡ part ∷ parts)) [
      | true ↦ ([], slice_split test bytes, refl)
      | false ↦ let more = split_parts test bytes in (byte ∷ more.0, more.1, ap (onto_first byte) more.2)
    ]

-- a line before its line feed, and the lines behind it
pub lines_cut : (bytes : List ℕ) (i : ℕ) → position is_feed bytes ≡ Some i → lines_of bytes ≡ without_return (take i bytes) ∷ lines_of (drop (i + 1) bytes)
unfolding lines_of
lines_cut bytes i e =
    let p = place_some is_feed bytes i e in
    let lt : position_or_len is_feed bytes < length bytes = omega arith in
    let cut : slice_split is_feed bytes ≡ take i bytes ∷ slice_split is_feed (drop (i + 1) bytes) = rw p.0 at (slice_split_first is_feed bytes 0 lt) in
    let more = split_parts is_feed (drop (i + 1) bytes) in
    ap (λ parts. map without_return (without_empty_last parts)) (cut ∙ ap (λ parts. take i bytes ∷ parts) more.2)
    ∙ ap (λ parts. without_return (take i bytes) ∷ map without_return (without_empty_last parts)) (sym more.2)

-- a list if the test never passes is one part
pub no_cut : (test : ℕ → Bool) (bytes : List ℕ) → position_or_len test bytes ≡ length bytes → slice_split test bytes ≡ bytes ∷ []
no_cut test [] e = refl
no_cut test (byte ∷ bytes) e =
    elim (test byte) as (λ b. cond (not b) (1 + position_or_len test bytes) 0 ≡ suc (length bytes) → cond b ([] ∷ slice_split test bytes) (onto_first byte (slice_split test bytes)) ≡ (byte ∷ bytes) ∷ []) [
      | true ↦ λ h. absurd (omega (arith, h))
      | false ↦ λ h. ap (onto_first byte) (no_cut test bytes (omega (arith, h)))
    ] e

-- the last line, which lacks its line feed
pub lines_last : (bytes : List ℕ) (n : ℕ) → 0 < length bytes → position is_feed bytes ≡ None → length bytes ≤ n → lines_of bytes ≡ without_return bytes ∷ lines_of (drop n bytes)
unfolding lines_of
lines_last [] n some e le = absurd (omega arith)
lines_last (byte ∷ bytes) n some e le =
    let cut = no_cut is_feed (byte ∷ bytes) (place_none is_feed (byte ∷ bytes) e) in
    let rest : drop n (byte ∷ bytes) ≡ [] = drop_all n (byte ∷ bytes) le in
    rw (cut, rest) refl

-- a blank at the front changes no word
words-blank : (byte : ℕ) (bytes : List ℕ) → is_blank byte ≡ true → words_of (byte ∷ bytes) ≡ words_of bytes
unfolding words_of
words-blank byte bytes e = ap (λ b. filter has_bytes (cond b ([] ∷ slice_split is_blank bytes) (onto_first byte (slice_split is_blank bytes)))) e

-- nor do the blanks before the first word
pub words_from : (line : List ℕ) → words_of (from_word line) ≡ words_of line
words_from [] = refl
words_from (byte ∷ line) =
    elim (is_blank byte) as (λ b. is_blank byte ≡ b → words_of (drop (cond (not (not b)) (1 + position_or_len is_no_blank line) 0) (byte ∷ line)) ≡ words_of (byte ∷ line)) [
      | true ↦ λ e.
          let n : 1 + position_or_len is_no_blank line ≡ suc (position_or_len is_no_blank line) = omega arith in
          rw n (words_from line ∙ sym (words-blank byte line e))
      | false ↦ λ e. refl
    ] refl

-- the first part of a line, up to a blank, and the words behind it
front_of : (line : List ℕ) → (parts : List (List ℕ)) × (slice_split is_blank line ≡ take (position_or_len is_blank line) line ∷ parts) × (filter has_bytes parts ≡ words_of (drop (position_or_len is_blank line) line))
unfolding words_of
front_of [] = ([], refl, refl)
front_of (byte ∷ line) =
    elim (is_blank byte) as (λ b. is_blank byte ≡ b → (parts : List (List ℕ)) × (cond b ([] ∷ slice_split is_blank line) (onto_first byte (slice_split is_blank line)) ≡ take (cond (not b) (1 + position_or_len is_blank line) 0) (byte ∷ line) ∷ parts)
    × (filter has_bytes parts ≡ words_of (drop (cond (not b) (1 + position_or_len is_blank line) 0) (byte ∷ line)))) [
      | true ↦ λ e. (slice_split is_blank line, refl, sym (words-blank byte line e))
      | false ↦ λ e.
          let n : 1 + position_or_len is_blank line ≡ suc (position_or_len is_blank line) = omega arith in
          let more = front_of line in
          rw n (more.0, ap (onto_first byte) more.1, more.2)
    ] refl

-- a line that begins with a word: the word, and the words behind it
pub words_cut : (line : List ℕ) → 0 < length line → position_or_len is_no_blank line ≡ 0 → words_of line ≡ take (position_or_len is_blank line) line ∷ words_of (drop (position_or_len is_blank line) line)
unfolding words_of
words_cut [] some e = absurd (omega arith)
words_cut (byte ∷ line) some begins =
    elim (is_blank byte) as (λ b. is_blank byte ≡ b → cond (not (not b)) (1 + position_or_len is_no_blank line) 0 ≡ 0 → words_of (byte ∷ line) ≡ take (position_or_len is_blank (byte ∷ line)) (byte ∷ line) ∷ words_of (drop (position_or_len is_blank (byte ∷ line)) (byte ∷ line))) [
      | true ↦ λ e h. absurd (omega (arith, h))
      | false ↦ λ e h.
          let front = front_of (byte ∷ line) in
          let n : position_or_len is_blank (byte ∷ line) ≡ suc (position_or_len is_blank line) = ap (λ b. cond (not b) (1 + position_or_len is_blank line) 0) e ∙ omega arith in
          ap (filter has_bytes) front.1 ∙ rw n (ap (λ words. (byte ∷ take (position_or_len is_blank line) line) ∷ words) (rw n at front.2))
    ] refl begins

-- behind the blanks the line begins with a word
pub from_word-begins : (line : List ℕ) → position_or_len is_no_blank (from_word line) ≡ 0
from_word-begins [] = refl
from_word-begins (byte ∷ line) =
    elim (is_blank byte) as (λ b. is_blank byte ≡ b → position_or_len is_no_blank (drop (cond (not (not b)) (1 + position_or_len is_no_blank line) 0) (byte ∷ line)) ≡ 0) [
      | true ↦ λ e.
          let n : 1 + position_or_len is_no_blank line ≡ suc (position_or_len is_no_blank line) = omega arith in
          rw n (from_word-begins line)
      | false ↦ λ e. ap (λ b. cond (not (not b)) (1 + position_or_len is_no_blank line) 0) e
    ] refl

pub no_words : words_of [] ≡ []
unfolding words_of
no_words = refl

-- a word has a byte at least
word_some : (line : List ℕ) → 0 < length line → position_or_len is_no_blank line ≡ 0 → 0 < position_or_len is_blank line
word_some [] some begins = absurd (omega arith)
word_some (byte ∷ line) some begins =
    elim (is_blank byte) as (λ b. cond (not (not b)) (1 + position_or_len is_no_blank line) 0 ≡ 0 → 0 < cond (not b) (1 + position_or_len is_blank line) 0) [
      | true ↦ λ h. absurd (omega (arith, h))
      | false ↦ λ h. omega arith
    ] begins

-- what the functions over slices find
pub first_of_lines : (bytes line behind kept : List ℕ) (i : ℕ) → Some i ≡ position is_feed bytes → line ≡ take i bytes → behind ≡ drop (i + 1) bytes → kept ≡ without_return line → lines_of bytes ≡ kept ∷ lines_of behind
first_of_lines bytes line behind kept i at front back stripped = rw (stripped, front, back) (lines_cut bytes i (sym at))

pub last_of_lines : (bytes behind kept : List ℕ) → 0 < length bytes → None ≡ position is_feed bytes → behind ≡ drop (length bytes) bytes → kept ≡ without_return bytes → lines_of bytes ≡ kept ∷ lines_of behind
last_of_lines bytes behind kept some at back stripped = rw (stripped, back) (lines_last bytes (length bytes) some (sym at) (omega arith))

pub first_of_words : (line start front behind : List ℕ) (n : ℕ) → start ≡ from_word line → 0 < length start → n ≡ position_or_len is_blank start → front ≡ take n start → behind ≡ drop n start → words_of line ≡ front ∷ words_of behind
first_of_words line start front behind n from some len before after =
    let begins : position_or_len is_no_blank start ≡ 0 = rw from (from_word-begins line) in
    let words : words_of start ≡ words_of line = ap words_of from ∙ words_from line in
    rw (before, after, len) (sym words ∙ words_cut start some begins)

pub no_first_word : (line start : List ℕ) → start ≡ from_word line → length start ≡ 0 → words_of line ≡ []
no_first_word line [] from none = sym (words_from line) ∙ ap words_of (sym from) ∙ no_words
no_first_word line (byte ∷ start) from none = absurd (omega arith)

pub behind_is_shorter : (line start behind : List ℕ) (n : ℕ) → start ≡ from_word line → 0 < length start → n ≡ position_or_len is_blank start → behind ≡ drop n start → length behind < length line
behind_is_shorter line start behind n from some len after =
    let begins : position_or_len is_no_blank start ≡ 0 = rw from (from_word-begins line) in
    let one = word_some start some begins in
    omega (arith, ap length from, ap length after, length-drop n start, length-drop (position_or_len is_no_blank line) line)

-- ---- where the first line feed stands

is_false : (b : Bool) → ¬ (b ≡ true) → b ≡ false
is_false true wrong = absurd (wrong refl)
is_false false wrong = refl

-- the first place that a search gives is the place that the list's words name
pub first_is_place : (test : ℕ → Bool) (bytes : List ℕ) (found : Option ℕ) → IsFirstByte test bytes found → found ≡ position test bytes
first_is_place test bytes None nowhere =
    let place : position_or_len test bytes ≡ length bytes = position_or_len_is test bytes (length bytes) 0 (omega arith) (λ k lt. is_false (test (get_or bytes k 0)) (nowhere k (omega arith) lt)) (λ lt. absurd (omega (arith, lt))) in
    ap (λ b. cond b (Some (position_or_len test bytes)) None) (sym (le-ltb (position_or_len test bytes) (length bytes) (omega (arith, place))))
first_is_place test bytes (Some i) first =
    let place : position_or_len test bytes ≡ i = position_or_len_is test bytes i 0 (omega (arith, first.0.high)) (λ k lt. is_false (test (get_or bytes k 0)) (first.0.before k (omega arith) lt)) (λ lt. first.1) in
    let some : Some (position_or_len test bytes) ≡ Some i = ap Some place in
    sym some ∙ ap (λ b. cond b (Some (position_or_len test bytes)) None) (sym (lt-ltb (position_or_len test bytes) (length bytes) (omega (arith, place, first.0.high))))

-- ---- words that differ

pub differ_by_length : (word other : List ℕ) → ¬ (length word ≡ length other) → is_same word other ≡ false
differ_by_length [] [] ne = absurd (ne refl)
differ_by_length [] (b ∷ other) ne = refl
differ_by_length (a ∷ word) [] ne = refl
differ_by_length (a ∷ word) (b ∷ other) ne =
    elim (a == b) as (λ x. (x && is_same word other) ≡ false) [
      | true ↦ differ_by_length word other (λ e. ne (omega (arith, e)))
      | false ↦ refl
    ]

-- two words from a place on: of the same byte there, of different ones, and if both have ended
pub same_more : (word other : List ℕ) (i : ℕ) → i < length word → i < length other → get_or word i 0 ≡ get_or other i 0 → is_same (drop (i + 1) word) (drop (i + 1) other) ≡ is_same (drop i word) (drop i other)
same_more word other i lt lt_other e =
    let cut : is_same (drop i word) (drop i other) ≡ ((get_or word i 0 == get_or other i 0) && is_same (drop (i + 1) word) (drop (i + 1) other)) = rw (drop_cut word i 0 lt, drop_cut other i 0 lt_other) refl in
    sym (cut ∙ ap (λ b. b && is_same (drop (i + 1) word) (drop (i + 1) other)) (eq-eqb (get_or word i 0) (get_or other i 0) e))

pub same_not : (word other : List ℕ) (i : ℕ) → i < length word → i < length other → ¬ (get_or word i 0 ≡ get_or other i 0) → is_same (drop i word) (drop i other) ≡ false
same_not word other i lt lt_other ne =
    let cut : is_same (drop i word) (drop i other) ≡ ((get_or word i 0 == get_or other i 0) && is_same (drop (i + 1) word) (drop (i + 1) other)) = rw (drop_cut word i 0 lt, drop_cut other i 0 lt_other) refl in
    cut ∙ ap (λ b. b && is_same (drop (i + 1) word) (drop (i + 1) other)) (ne_eqb (get_or word i 0) (get_or other i 0) ne)

pub same_end : (word other : List ℕ) (i : ℕ) → length word ≤ i → length other ≤ i → is_same (drop i word) (drop i other) ≡ true
same_end word other i le le_other = rw (drop_all i word le, drop_all i other le_other) refl

-- ---- the lines of plain bytes

and_first : (a b : Bool) → (a && b) ≡ true → a ≡ true
and_first true b h = refl
and_first false b h = absurd cc

and_second : (a b : Bool) → (a && b) ≡ true → b ≡ true
and_second true b h = h
and_second false b h = absurd cc

both : {a b : Bool} → a ≡ true → b ≡ true → (a && b) ≡ true
both {a} {b} one other = ap (λ x. x && b) one ∙ other

or_false : (a : Bool) → (a || false) ≡ true → a ≡ true
or_false true h = refl
or_false false h = h

text_onto : (byte : ℕ) (parts : List (List ℕ)) → is_text byte ≡ true → list_all (list_all is_text) parts ≡ true → list_all (list_all is_text) (onto_first byte parts) ≡ true
text_onto byte [] text all = both (both text refl) refl
text_onto byte (part ∷ parts) text all =
    both (both text (and_first (list_all is_text part) (list_all (list_all is_text) parts) all)) (and_second (list_all is_text part) (list_all (list_all is_text) parts) all)

plain_parts : (bytes : List ℕ) → list_all (λ byte. is_text byte || is_feed byte) bytes ≡ true → list_all (list_all is_text) (slice_split is_feed bytes) ≡ true
plain_parts [] plain = refl
plain_parts (byte ∷ bytes) plain =
    let more = plain_parts bytes (and_second (is_text byte || is_feed byte) (list_all (λ b. is_text b || is_feed b) bytes) plain) in
    elim (is_feed byte) as (λ b. (is_text byte || b) ≡ true → list_all (list_all is_text) (cond b ([] ∷ slice_split is_feed bytes) (onto_first byte (slice_split is_feed bytes))) ≡ true) [
      | true ↦ λ h. more
      | false ↦ λ h. text_onto byte (slice_split is_feed bytes) (or_false (is_text byte) h) more
    ] (and_first (is_text byte || is_feed byte) (list_all (λ b. is_text b || is_feed b) bytes) plain)

kept_parts : (parts : List (List ℕ)) → list_all (list_all is_text) parts ≡ true → list_all (list_all is_text) (without_empty_last parts) ≡ true
kept_parts [] all = refl
kept_parts (line ∷ []) all =
    elim (has_bytes line) as (λ b. list_all (list_all is_text) (cond b (line ∷ []) []) ≡ true) [
      | true ↦ all
      | false ↦ refl
    ]
kept_parts (line ∷ next ∷ lines) all =
    both (and_first (list_all is_text line) (list_all (list_all is_text) (next ∷ lines)) all) (kept_parts (next ∷ lines) (and_second (list_all is_text line) (list_all (list_all is_text) (next ∷ lines)) all))

text_taken : (n : ℕ) (line : List ℕ) → list_all is_text line ≡ true → list_all is_text (take n line) ≡ true
text_taken zero line all = refl
text_taken (suc n) [] all = refl
text_taken (suc n) (byte ∷ line) all = both (and_first (is_text byte) (list_all is_text line) all) (text_taken n line (and_second (is_text byte) (list_all is_text line) all))

text_stripped : (line : List ℕ) → list_all is_text line ≡ true → list_all is_text (without_return line) ≡ true
text_stripped line all =
    elim (ends_with (λ a b. a == b) line (13 ∷ [])) as (λ b. list_all is_text (cond b (take (length line - 1) line) line) ≡ true) [
      | true ↦ text_taken (length line - 1) line all
      | false ↦ all
    ]

lines_stripped : (lines : List (List ℕ)) → list_all (list_all is_text) lines ≡ true → list_all (list_all is_text) (map without_return lines) ≡ true
lines_stripped [] all = refl
lines_stripped (line ∷ lines) all =
    both (text_stripped line (and_first (list_all is_text line) (list_all (list_all is_text) lines) all)) (lines_stripped lines (and_second (list_all is_text line) (list_all (list_all is_text) lines) all))

-- if each byte is text or a line feed, each line is text
pub plain_lines : (bytes : List ℕ) → list_all (λ byte. is_text byte || is_feed byte) bytes ≡ true → list_all (list_all is_text) (lines_of bytes) ≡ true
unfolding lines_of
plain_lines bytes plain = lines_stripped (without_empty_last (slice_split is_feed bytes)) (kept_parts (slice_split is_feed bytes) (plain_parts bytes plain))
