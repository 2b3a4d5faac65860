-- Laws of a text of words with one space between each two.
use Rattle.std.proofs.Common.{◌≡◌, ℕ, suc, ◌+◌, ◌≤◌, Bool, true, false, cond, not, ◌&&◌, ◌||◌, nat_le, eqb, List, [], ◌∷◌, ◌++◌, length, drop, append-nil, refl, sym, ap, ◌∙◌, arith}
use Rattle.std.specs.Prelude.{filter}
use Rattle.std.specs.List.{list_all, slice_split, onto_first, position_or_len}
use Rattle.std.proofs.lemmas.Bool.{leb-true, le-leb}
use Rattle.std.proofs.lemmas.List.{length-append}
use Rattle.std.proofs.lemmas.List.Splits.{slice_split-cons_no}
use Rattle.script_words.specs.Text.{is_blank, is_no_blank, is_text, has_bytes, words_of, from_word, behind_word}
use Rattle.script_words.specs.Counts.{Word}
use Rattle.script_lines.specs.Ranges.{is_visible}
use Rattle.script_text.specs.Spelling.{behind}
use Rattle.script_lines.proofs.Booleans.{and_first, and_second, both, all_append, all_weaker, at_least, at_most, differ}

-- a word's form: a byte at least, and visible bytes alone
abbrev pub is_word : Word → Bool
is_word word = has_bytes word && list_all is_visible word

pub visible_no_blank : (byte : ℕ) → is_visible byte ≡ true → is_blank byte ≡ false
visible_no_blank byte h =
    let low = at_least 33 126 byte h in
    let space : eqb byte 32 ≡ false = differ byte 32 (λ e. omega arith) in
    let tab : eqb byte 9 ≡ false = differ byte 9 (λ e. omega arith) in
    ap (λ b. b || eqb byte 9) space ∙ tab

pub visible_is_text : (byte : ℕ) → is_visible byte ≡ true → is_text byte ≡ true
visible_is_text byte h =
    let printed : (nat_le 32 byte && nat_le byte 126) ≡ true = let low = at_least 33 126 byte h in both (le-leb 32 byte (omega arith)) (le-leb byte 126 (at_most 33 126 byte h)) in
    ap (λ b. b || eqb byte 9) printed

-- a word, and what is behind it
cut_after : (word rest : List ℕ) → list_all is_visible word ≡ true → slice_split is_blank (word ++ 32 ∷ rest) ≡ word ∷ slice_split is_blank rest
cut_after [] rest h = refl
cut_after (byte ∷ word) rest h =
    slice_split-cons_no is_blank byte (word ++ 32 ∷ rest) (visible_no_blank byte (and_first (is_visible byte) (list_all is_visible word) h))
    ∙ ap (onto_first byte) (cut_after word rest (and_second (is_visible byte) (list_all is_visible word) h))

cut_none : (word : List ℕ) → list_all is_visible word ≡ true → slice_split is_blank word ≡ word ∷ []
cut_none [] h = refl
cut_none (byte ∷ word) h =
    slice_split-cons_no is_blank byte word (visible_no_blank byte (and_first (is_visible byte) (list_all is_visible word) h))
    ∙ ap (onto_first byte) (cut_none word (and_second (is_visible byte) (list_all is_visible word) h))

-- a blank at the front changes no word
words-blank : (byte : ℕ) (bytes : List ℕ) → is_blank byte ≡ true → words_of (byte ∷ bytes) ≡ words_of bytes
unfolding words_of
words-blank byte bytes e = ap (λ b. filter has_bytes (cond b ([] ∷ slice_split is_blank bytes) (onto_first byte (slice_split is_blank bytes)))) e

kept : (word : List ℕ) (parts : List (List ℕ)) → has_bytes word ≡ true → filter has_bytes (word ∷ parts) ≡ word ∷ filter has_bytes parts
kept (byte ∷ word) parts some = refl
kept [] parts some = absurd cc

-- the first word of a text, whatever is behind it
pub words-first : (word : Word) (rest : List Word) → is_word word ≡ true → words_of (word ++ behind rest) ≡ word ∷ words_of (behind rest)
unfolding words_of
words-first word [] h =
    ap words_of (append-nil word) ∙ ap (filter has_bytes) (cut_none word (and_second (has_bytes word) (list_all is_visible word) h)) ∙ kept word [] (and_first (has_bytes word) (list_all is_visible word) h)
words-first word (next ∷ rest) h =
    ap (filter has_bytes) (cut_after word (next ++ behind rest) (and_second (has_bytes word) (list_all is_visible word) h))
    ∙ kept word (slice_split is_blank (next ++ behind rest)) (and_first (has_bytes word) (list_all is_visible word) h)
    ∙ ap (λ words. word ∷ words) (sym (words-blank 32 (next ++ behind rest) refl))

-- the same with a space before it
pub words-next : (word : Word) (rest : List Word) → is_word word ≡ true → words_of (behind (word ∷ rest)) ≡ word ∷ words_of (behind rest)
words-next word rest h = words-blank 32 (word ++ behind rest) refl ∙ words-first word rest h

pub words-behind : (words : List Word) → list_all is_word words ≡ true → words_of (behind words) ≡ words
unfolding words_of
words-behind [] h = refl
words-behind (word ∷ words) h =
    words-next word words (and_first (is_word word) (list_all is_word words) h) ∙ ap (λ others. word ∷ others) (words-behind words (and_second (is_word word) (list_all is_word words) h))

-- behind a word
past_word : (word : List ℕ) (rest : List Word) → list_all is_visible word ≡ true → drop (position_or_len is_blank (word ++ behind rest)) (word ++ behind rest) ≡ behind rest
past_word [] [] h = refl
past_word [] (next ∷ rest) h = refl
past_word (byte ∷ word) rest h =
    let one : position_or_len is_blank (byte ∷ word ++ behind rest) ≡ suc (position_or_len is_blank (word ++ behind rest)) =
    ap (λ b. cond (not b) (1 + position_or_len is_blank (word ++ behind rest)) 0) (visible_no_blank byte (and_first (is_visible byte) (list_all is_visible word) h)) ∙ omega arith in
    ap (λ n. drop n (byte ∷ word ++ behind rest)) one ∙ past_word word rest (and_second (is_visible byte) (list_all is_visible word) h)

-- a text that begins with a word begins with no blank
from_first : (word rest : List ℕ) → is_word word ≡ true → from_word (word ++ rest) ≡ word ++ rest
from_first [] rest h = absurd cc
from_first (byte ∷ word) rest h =
    ap (λ b. drop (cond (not (not b)) (1 + position_or_len is_no_blank (word ++ rest)) 0) (byte ∷ word ++ rest))
    (visible_no_blank byte (and_first (is_visible byte) (list_all is_visible word) (and_second true (list_all is_visible (byte ∷ word)) h)))

pub behind-first : (word : Word) (rest : List Word) → is_word word ≡ true → behind_word (word ++ behind rest) ≡ behind rest
behind-first word rest h =
    ap (λ line. drop (position_or_len is_blank line) line) (from_first word (behind rest) h) ∙ past_word word rest (and_second (has_bytes word) (list_all is_visible word) h)

pub from_space : (bytes : List ℕ) → from_word (32 ∷ bytes) ≡ from_word bytes
from_space bytes = let n : 1 + position_or_len is_no_blank bytes ≡ suc (position_or_len is_no_blank bytes) = omega arith in ap (λ m. drop m (32 ∷ bytes)) n

pub behind-next : (word : Word) (rest : List Word) → is_word word ≡ true → behind_word (behind (word ∷ rest)) ≡ behind rest
behind-next word rest h = ap (λ line. drop (position_or_len is_blank line) line) (from_space (word ++ behind rest)) ∙ behind-first word rest h

-- ---- words in so many bytes

-- a word of at most so many bytes
pub record IsWord (most : ℕ) (word : Word) : Type 0 where
  pub form : is_word word ≡ true
  pub short : length word ≤ most

-- words that take at most so many bytes, with a space before each
pub record AreWords (most : ℕ) (words : List Word) : Type 0 where
  pub forms : list_all is_word words ≡ true
  pub short : length (behind words) ≤ most

pub no_words : AreWords 0 []
no_words = record { forms = refl; short = omega arith }

infixr 20 ◌◃◌
pub ◌◃◌ : {most others : ℕ} {word : Word} {words : List Word} → IsWord most word → AreWords others words → AreWords (1 + most + others) (word ∷ words)
◌◃◌ {most} {others} {word} {words} one more = record {
  forms = both one.form more.forms;
  short = let a = one.short in let b = more.short in omega (arith, length-append word (behind words));
}

pub keyword : (word : Word) → is_word word ≡ true → nat_le (length word) 8 ≡ true → IsWord 8 word
keyword word form short = record { form = form; short = leb-true (length word) 8 short }

-- each byte of such words is one of a line's
pub words_are_text : (words : List Word) → list_all is_word words ≡ true → list_all is_text (behind words) ≡ true
words_are_text [] h = refl
words_are_text (word ∷ words) h =
    let first = and_second (has_bytes word) (list_all is_visible word) (and_first (is_word word) (list_all is_word words) h) in
    all_append is_text word (behind words) (all_weaker is_visible is_text visible_is_text word first) (words_are_text words (and_second (is_word word) (list_all is_word words) h))
