-- Lines that end with line feeds fall into these lines again, and are read one after another.
use Rattle.std.proofs.Common.{◌≡◌, ℕ, suc, ◌+◌, ◌-◌, ◌≤◌, true, false, cond, ◌&&◌, eqb, List, [], ◌∷◌, ◌++◌, length, map, take, drop, Some, Ok, Err, refl, ap, sym, ◌∙◌, subst, arith, append_assoc, codes}
use Rattle.std.specs.List.{list_all, slice_split, onto_first, ends_with, starts_with}
use Rattle.std.specs.Cmp.Lexicographic.{pointwise}
use Rattle.std.proofs.lemmas.Bool.{ne_eqb, le-ltb}
use Rattle.std.proofs.lemmas.List.{length-append}
use Rattle.std.proofs.lemmas.List.Splits.{slice_split-cons_no}
use Rattle.script_words.specs.Text.{is_feed, is_text, without_return, without_empty_last, lines_of, words_of, behind_word, has_bytes}
use Rattle.script_words.specs.Counts.{Word}
use Rattle.script_lines.specs.Ranges.{is_visible}
use Rattle.script_text.specs.Spelling.{spaced, behind}
use Rattle.script_lines.proofs.Booleans.{and_first, and_second, all_append, all_weaker}
use Rattle.script_text.proofs.PieceLemmas.{spaced_parts}
use Rattle.script_text.proofs.WordLemmas.{is_word, visible_is_text, words-first, words-behind, behind-first, AreWords, words_are_text}
use Rattle.app_script.specs.declared.forms.Form.{Form}
use Rattle.app_script.specs.Forms.{form_of, is_misplaced}
use Rattle.app_script.proofs.ScriptLemmas.{known_form}
use Rattle.app_script.specs.Grammar.{Progress, after_form, after_known, after_words, after_line, after_lines, at_line, ◌>=>◌}
use Rattle.script_text.specs.ScriptSpelling.{ended}

-- ---- lines

no_feed : (byte : ℕ) → is_text byte ≡ true → is_feed byte ≡ false
no_feed byte h = ne_eqb byte 10 (λ e. let f : true ≡ false = sym h ∙ ap is_text e in absurd cc)

no_return_byte : (byte : ℕ) → is_text byte ≡ true → eqb 13 byte ≡ false
no_return_byte byte h = ne_eqb 13 byte (λ e. let f : true ≡ false = sym h ∙ ap is_text (sym e) in absurd cc)

cut_feed : (line rest : List ℕ) → list_all is_text line ≡ true → slice_split is_feed (line ++ 10 ∷ rest) ≡ line ∷ slice_split is_feed rest
cut_feed [] rest h = refl
cut_feed (byte ∷ line) rest h =
    slice_split-cons_no is_feed byte (line ++ 10 ∷ rest) (no_feed byte (and_first (is_text byte) (list_all is_text line) h)) ∙ ap (onto_first byte) (cut_feed line rest (and_second (is_text byte) (list_all is_text line) h))

splits : (lines : List (List ℕ)) → list_all (list_all is_text) lines ≡ true → slice_split is_feed (ended lines) ≡ lines ++ [] ∷ []
splits [] h = refl
splits (line ∷ lines) h =
    ap (slice_split is_feed) (append_assoc line (10 ∷ []) (ended lines)) ∙ cut_feed line (ended lines) (and_first (list_all is_text line) (list_all (list_all is_text) lines) h)
    ∙ ap (λ l. line ∷ l) (splits lines (and_second (list_all is_text line) (list_all (list_all is_text) lines) h))

dropped : (lines : List (List ℕ)) → without_empty_last (lines ++ [] ∷ []) ≡ lines
dropped [] = refl
dropped (line ∷ []) = refl
dropped (line ∷ next ∷ lines) = ap (λ l. line ∷ l) (dropped (next ∷ lines))

ends : (line : List ℕ) → list_all is_text line ≡ true → ends_with (λ a b. eqb a b) line (13 ∷ []) ≡ false
ends [] h = refl
ends (byte ∷ []) h = ap (λ b. b && true) (no_return_byte byte (and_first (is_text byte) true h))
ends (byte ∷ next ∷ line) h =
    let n : length (byte ∷ next ∷ line) - 1 ≡ suc (length (next ∷ line) - 1) = omega arith in
    ap (λ m. pointwise (λ a b. eqb a b) (13 ∷ []) (drop m (byte ∷ next ∷ line))) n ∙ ends (next ∷ line) (and_second (is_text byte) (list_all is_text (next ∷ line)) h)

kept : (lines : List (List ℕ)) → list_all (list_all is_text) lines ≡ true → map without_return lines ≡ lines
kept [] h = refl
kept (line ∷ lines) h =
    let first : without_return line ≡ line = ap (λ b. cond b (take (length line - 1) line) line) (ends line (and_first (list_all is_text line) (list_all (list_all is_text) lines) h)) in
    let others = kept lines (and_second (list_all is_text line) (list_all (list_all is_text) lines) h) in
    cc

pub lines_again : (lines : List (List ℕ)) → list_all (list_all is_text) lines ≡ true → lines_of (ended lines) ≡ lines
unfolding lines_of
lines_again lines h = ap (λ parts. map without_return (without_empty_last parts)) (splits lines h) ∙ ap (map without_return) (dropped lines) ∙ kept lines h

-- ---- reading line by line

after_append : (n : ℕ) (s : Progress) (xs : List (List ℕ)) (t : Progress) (ys : List (List ℕ)) → after_lines n s xs ≡ Ok t → after_lines n s (xs ++ ys) ≡ after_lines (n + length xs) t ys
unfolding after_lines
after_append n s [] t ys h =
    let same : s ≡ t = cc in
    let here : n ≡ n + 0 = omega arith in
    ap (λ u. after_lines n u ys) same ∙ ap (λ m. after_lines m t ys) here
after_append n s (x ∷ xs) t ys h =
    let here : n + 1 + length xs ≡ n + suc (length xs) = omega arith in
    elim (after_line s x) as (λ r. (at_line n r >=> λ u. after_lines (n + 1) u xs) ≡ Ok t → (at_line n r >=> λ u. after_lines (n + 1) u (xs ++ ys)) ≡ after_lines (n + suc (length xs)) t ys) [
      | Ok u ↦ λ e. after_append (n + 1) u xs t ys e ∙ ap (λ m. after_lines m t ys) here
      | Err fault ↦ λ e. absurd cc
    ] h

-- from any line number on, these lines lead to such a progress
abbrev pub Leads : Progress → List (List ℕ) → (Progress → Type 0) → Type 0
Leads s lines p = (n : ℕ) → (t : Progress) × (after_lines n s lines ≡ Ok t) × p t

pub leads_none : (s : Progress) (p : Progress → Type 0) → p s → Leads s [] p
unfolding after_lines
leads_none s p h n = (s, refl, h)

pub leads_one : (s : Progress) (line : List ℕ) (p : Progress → Type 0) → (t : Progress) × (after_line s line ≡ Ok t) × p t → Leads s (line ∷ []) p
unfolding after_lines
leads_one s line p step n = (step.0, ap (λ r. at_line n r >=> λ u. after_lines (n + 1) u []) step.1, step.2)

pub leads_then : (s : Progress) (xs ys : List (List ℕ)) (p q : Progress → Type 0) → Leads s xs p → ((t : Progress) → p t → Leads t ys q) → Leads s (xs ++ ys) q
leads_then s xs ys p q first next n =
    let a = first n in
    let b = next a.0 a.2 (n + length xs) in
    (b.0, after_append n s xs a.0 ys a.1 ∙ b.1, b.2)

-- a line whose first word is known
pub known_line : (s : Progress) (text first : List ℕ) (others : List Word) (form : Form) → length text ≤ 1024 → list_all is_text text ≡ true → words_of text ≡ first ∷ others → starts_with (λ a b. eqb a b) first (codes "#") ≡ false
    → form_of first ≡ Some form → is_misplaced form s.begun s.started ≡ false → after_line s text ≡ after_form (record s { begun = true }) form (behind_word text)
unfolding after_line after_words after_known
known_line s text first others form short printed words hash known placed =
    let long = le-ltb 1024 (length text) short in
    rw (long, printed, words, hash, known_form s.limits.version first form known, placed) refl

-- ---- lines of words

pub record IsSpaced (text : List ℕ) (first : Word) (rest : List Word) : Type 0 where
  pub short : length text ≤ 1024
  pub printed : list_all is_text text ≡ true
  pub words : words_of text ≡ first ∷ rest
  pub back : words_of (behind_word text) ≡ rest

pub spaced_line : {n : ℕ} (first : Word) (rest : List Word) → AreWords n (first ∷ rest) → n ≤ 1025 → IsSpaced (spaced (first ∷ rest)) first rest
spaced_line {n} first rest are bound =
    let form = and_first (is_word first) (list_all is_word rest) are.forms in
    let others = and_second (is_word first) (list_all is_word rest) are.forms in
    let size = are.short in
    subst (λ (t : List ℕ). IsSpaced t first rest) (sym (spaced_parts first rest)) (record {
      short = omega (arith, length-append first (behind rest));
      printed = all_append is_text first (behind rest) (all_weaker is_visible is_text visible_is_text first (and_second (has_bytes first) (list_all is_visible first) form)) (words_are_text rest others);
      words = words-first first rest form ∙ ap (λ l. first ∷ l) (words-behind rest others);
      back = ap words_of (behind-first first rest form) ∙ words-behind rest others;
    })
