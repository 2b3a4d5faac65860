-- What is trimmed once is trimmed.
use Rattle.std.proofs.Common.{◌≡◌, ℕ, zero, suc, ◌+◌, ◌-◌, true, false, cond, not, List, [], ◌∷◌, ◌++◌, length, take, drop, reverse, refl, sym, ap, ◌∙◌, arith}
use Rattle.std.specs.List.{position_or_len}
use Rattle.std.proofs.lemmas.List.{length-drop, reverse-append, reverse-reverse, length-reverse, take-append-drop}
use Rattle.std.proofs.Math.Seq.{take-append_seam}
use Rattle.script_words.specs.Text.{is_no_blank, from_word, without_blanks_behind, trimmed}
use Rattle.script_words.proofs.TextLemmas.{from_word-begins}

from_again : (line : List ℕ) → from_word (from_word line) ≡ from_word line
from_again line = ap (λ n. drop n (from_word line)) (from_word-begins line)

-- the blanks behind are those before, seen from the end
from_behind : (text : List ℕ) → without_blanks_behind text ≡ reverse (from_word (reverse text))
from_behind text =
    let n = position_or_len is_no_blank (reverse text) in
    let front = reverse (drop n (reverse text)) in
    let back = reverse (take n (reverse text)) in
    let whole : text ≡ front ++ back = sym (reverse-reverse text) ∙ ap reverse (sym (take-append-drop n (reverse text))) ∙ reverse-append (take n (reverse text)) (drop n (reverse text)) in
    let size : length text - n ≡ length front = ap (λ m. m - n) (sym (length-reverse text)) ∙ sym (length-drop n (reverse text)) ∙ sym (length-reverse (drop n (reverse text))) in
    ap (λ m. take m text) size ∙ ap (take (length front)) whole ∙ take-append_seam front back

behind_again : (text : List ℕ) → without_blanks_behind (without_blanks_behind text) ≡ without_blanks_behind text
behind_again text =
    let form = from_behind text in
    from_behind (without_blanks_behind text) ∙ ap (λ t. reverse (from_word (reverse t))) form ∙ ap (λ t. reverse (from_word t)) (reverse-reverse (from_word (reverse text)))
    ∙ ap reverse (from_again (reverse text)) ∙ sym form

-- the front of a text that begins with a word does so too
front_begins : (k : ℕ) (text : List ℕ) → position_or_len is_no_blank text ≡ 0 → from_word (take k text) ≡ take k text
front_begins zero text h = refl
front_begins (suc k) [] h = refl
front_begins (suc k) (byte ∷ text) h =
    elim (is_no_blank byte) as (λ b. cond (not b) (1 + position_or_len is_no_blank text) 0 ≡ 0 → drop (cond (not b) (1 + position_or_len is_no_blank (take k text)) 0) (byte ∷ take k text) ≡ byte ∷ take k text) [
      | true ↦ λ e. refl
      | false ↦ λ e. absurd (omega (arith, e))
    ] h

pub trimmed_again : (text : List ℕ) → trimmed (trimmed text) ≡ trimmed text
trimmed_again text =
    let start = from_word text in
    ap without_blanks_behind (front_begins (length start - position_or_len is_no_blank (reverse start)) start (from_word-begins text)) ∙ behind_again start
