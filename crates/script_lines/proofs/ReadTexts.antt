-- The words of a text are of visible bytes, and what is trimmed once is trimmed.
use Rattle.std.proofs.Common.{◌≡◌, ℕ, zero, suc, ◌-◌, ◌≤◌, Bool, true, false, cond, ◌&&◌, ◌||◌, nat_le, eqb, List, [], ◌∷◌, length, take, drop, reverse, refl, arith}
use Rattle.std.specs.Prelude.{filter}
use Rattle.std.specs.List.{list_all, slice_split, onto_first, position_or_len}
use Rattle.std.proofs.lemmas.Bool.{le-leb, eq-eqb, eqb-false}
use Rattle.script_words.specs.Text.{is_blank, is_no_blank, is_text, has_bytes, words_of, from_word, behind_word, trimmed, is_same}
use Rattle.script_lines.specs.Ranges.{is_visible}
use Rattle.script_lines.proofs.Booleans.{and_first, and_second, both, at_least, at_most}

-- ---- parts of a list

pub all_drop : {X : Type 0} (p : X → Bool) (n : ℕ) (xs : List X) → list_all p xs ≡ true → list_all p (drop n xs) ≡ true
all_drop p zero xs h = h
all_drop p (suc n) [] h = refl
all_drop p (suc n) (x ∷ xs) h = all_drop p n xs (and_second (p x) (list_all p xs) h)

pub all_take : {X : Type 0} (p : X → Bool) (n : ℕ) (xs : List X) → list_all p xs ≡ true → list_all p (take n xs) ≡ true
all_take p zero xs h = refl
all_take p (suc n) [] h = refl
all_take p (suc n) (x ∷ xs) h = both (and_first (p x) (list_all p xs) h) (all_take p n xs (and_second (p x) (list_all p xs) h))

all_filter : {X : Type 0} (p q : X → Bool) (xs : List X) → list_all p xs ≡ true → list_all p (filter q xs) ≡ true
all_filter p q [] h = refl
all_filter p q (x ∷ xs) h =
    let others = all_filter p q xs (and_second (p x) (list_all p xs) h) in
    elim (q x) as (λ b. list_all p (cond b (x ∷ filter q xs) (filter q xs)) ≡ true) [ true ↦ both (and_first (p x) (list_all p xs) h) others | false ↦ others ]

-- ---- words

text_is_visible : (byte : ℕ) → is_text byte ≡ true → is_blank byte ≡ false → is_visible byte ≡ true
text_is_visible byte h blank =
    let space = no_space (eqb byte 32) (eqb byte 9) blank in
    let tab = no_tab (eqb byte 32) (eqb byte 9) blank in
    let printed = no_other (nat_le 32 byte && nat_le byte 126) (eqb byte 9) h tab in
    let low = at_least 32 126 byte printed in
    let high = at_most 32 126 byte printed in
    let other : byte ≡ 32 → ⊥ = eqb-false byte 32 space in
    both (le-leb 33 byte (above byte low other)) (le-leb byte 126 high)
  where
    no_space : (a b : Bool) → (a || b) ≡ false → a ≡ false
    no_space true b h = absurd cc
    no_space false b h = refl

    no_tab : (a b : Bool) → (a || b) ≡ false → b ≡ false
    no_tab true b h = absurd cc
    no_tab false b h = h

    no_other : (a b : Bool) → (a || b) ≡ true → b ≡ false → a ≡ true
    no_other true b h e = refl
    no_other false b h e = absurd cc

    above : (n : ℕ) → 32 ≤ n → (n ≡ 32 → ⊥) → 33 ≤ n
    above n low other = omega (arith, low, other)

onto_visible : (byte : ℕ) (parts : List (List ℕ)) → is_visible byte ≡ true → list_all (list_all is_visible) parts ≡ true → list_all (list_all is_visible) (onto_first byte parts) ≡ true
onto_visible byte [] one others = both (both one refl) refl
onto_visible byte (part ∷ parts) one others =
    both (both one (and_first (list_all is_visible part) (list_all (list_all is_visible) parts) others)) (and_second (list_all is_visible part) (list_all (list_all is_visible) parts) others)

parts_visible : (line : List ℕ) → list_all is_text line ≡ true → list_all (list_all is_visible) (slice_split is_blank line) ≡ true
parts_visible [] h = refl
parts_visible (byte ∷ line) h =
    let others = parts_visible line (and_second (is_text byte) (list_all is_text line) h) in
    elim (is_blank byte) as (λ b. is_blank byte ≡ b → list_all (list_all is_visible) (cond b ([] ∷ slice_split is_blank line) (onto_first byte (slice_split is_blank line))) ≡ true) [
      | true ↦ λ e. others
      | false ↦ λ e. onto_visible byte (slice_split is_blank line) (text_is_visible byte (and_first (is_text byte) (list_all is_text line) h) e) others
    ] refl

pub words_visible : (line : List ℕ) → list_all is_text line ≡ true → list_all (list_all is_visible) (words_of line) ≡ true
unfolding words_of
words_visible line h = all_filter (list_all is_visible) has_bytes (slice_split is_blank line) (parts_visible line h)

-- ---- texts

pub from_is_text : (line : List ℕ) → list_all is_text line ≡ true → list_all is_text (from_word line) ≡ true
from_is_text line h = all_drop is_text (position_or_len is_no_blank line) line h

pub behind_is_text : (line : List ℕ) → list_all is_text line ≡ true → list_all is_text (behind_word line) ≡ true
behind_is_text line h = all_drop is_text (position_or_len is_blank (from_word line)) (from_word line) (from_is_text line h)

pub trimmed_is_text : (text : List ℕ) → list_all is_text text ≡ true → list_all is_text (trimmed text) ≡ true
trimmed_is_text text h = all_take is_text (length (from_word text) - position_or_len is_no_blank (reverse (from_word text))) (from_word text) (from_is_text text h)

pub same_self : (xs : List ℕ) → is_same xs xs ≡ true
same_self [] = refl
same_self (x ∷ xs) = both (eq-eqb x x refl) (same_self xs)
