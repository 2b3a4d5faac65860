-- What the spellings of names, modes, scopes, contents, filters and rules read as.
use Rattle.std.proofs.Common.{◌≡◌, ℕ, suc, ◌+◌, ◌*◌, ◌/◌, ◌%◌, ◌<◌, ◌≤◌, Bool, true, false, not, ◌&&◌, nat_le, eqb, List, [], ◌∷◌, ◌++◌, length, map, Option, Some, None, Result, Ok, append_assoc, refl, ap, ◌∙◌, arith, codes, decimal}
use Rattle.std.specs.List.{list_all, starts_with, slice_split, onto_first}
use Rattle.std.proofs.lemmas.Bool.{leb-true}
use Rattle.std.proofs.lemmas.List.{length-append}
use Rattle.std.proofs.lemmas.List.Splits.{slice_split-cons_no}
use Rattle.fsw_base.specs.declared.script_faults.FaultKind.{FaultKind}
use Rattle.fsw_base.specs.declared.config.Scope.{Scope}
use Rattle.fsw_base.specs.declared.config.Scope.TheVariants as scopes
use Rattle.fsw_base.specs.declared.events.EventKind.{EventKind}
use Rattle.fsw_base.specs.declared.events.EventKind.TheVariants as kinds
use Rattle.fsw_base.specs.Events.{kind_number}
use Rattle.text_page.specs.Texts.{hex_digit, hex_bytes, hex_id, name_text}
use Rattle.script_words.specs.Lists.{each}
use Rattle.script_words.specs.Text.{has_bytes, is_same}
use Rattle.script_words.specs.Counts.{Word}
use Rattle.script_words.specs.Numbers.{is_digit, is_colon, number_of, parts_of, numbers_2, number_and_2, numbers_3}
use Rattle.script_words.specs.Content.{name_of, mode_word, mode_of, scope_word, scope_of, filling_of, content_of}
use Rattle.script_words.specs.declared.content.Content.{Content}
use Rattle.script_words.specs.declared.content.Content.TheVariants.{Hex, Fill}
use Rattle.tbl_rules.specs.declared.rules.Rule.{Rule}
use Rattle.script_lines.specs.BusLines.{hex_word}
use Rattle.script_lines.specs.EventLines.{pair_word, filter_of, kind_of}
use Rattle.script_lines.specs.TableLines.{triple_word, rule_of}
use Rattle.script_text.specs.Spelling.{behind, scope_text, mode_text, content_text, filter_text, rule_text}
use Rattle.script_lines.specs.Ranges.{is_visible, is_name, is_spelled, is_content, is_filter, is_rule}
use Rattle.script_lines.proofs.Booleans.{and_first, and_second, both, all_append, all_weaker, at_most, differ}
use Rattle.script_text.proofs.WordLemmas.{IsWord, AreWords}
use Rattle.script_text.proofs.SpelledNumbers.{decimal_digits, number_reads, number_fits, within_reads, within_most, hex_here, id_reads, id_fits, hex_text_form, hex_text_reads}

-- ---- names

not_true : (a : Bool) → not a ≡ true → a ≡ false
not_true true h = absurd cc
not_true false h = refl

pub name_reads : (name : List ℕ) → is_name name ≡ true → name_of (name_text name) ≡ Ok name
unfolding name_of
name_reads [] h = refl
name_reads (byte ∷ name) h =
    let other = not_true (is_same (byte ∷ name) (codes "-")) (and_second _ _ h) in
    let short = and_first (nat_le (length (byte ∷ name)) 64) (list_all is_visible (byte ∷ name)) (and_first _ _ h) in
    rw (other, short) refl

pub name_fits : (name : List ℕ) → is_name name ≡ true → IsWord 64 (name_text name)
name_fits [] h = record { form = refl; short = omega arith }
name_fits (byte ∷ name) h = record {
  form = and_second (nat_le (length (byte ∷ name)) 64) (list_all is_visible (byte ∷ name)) (and_first _ _ h);
  short = leb-true (length (byte ∷ name)) 64 (and_first (nat_le (length (byte ∷ name)) 64) (list_all is_visible (byte ∷ name)) (and_first _ _ h));
}

-- ---- modes, scopes and kinds

pub mode_reads : (inc : Bool) → mode_of (Some (mode_text inc)) ≡ Ok inc
unfolding mode_of mode_word
mode_reads true = refl
mode_reads false = refl

pub mode_fits : (inc : Bool) → IsWord 4 (mode_text inc)
mode_fits true = record { form = refl; short = omega arith }
mode_fits false = record { form = refl; short = omega arith }

pub scope_reads : (scope : Scope) → scope_of (Some (scope_text scope)) ≡ Ok scope
unfolding scope_of scope_word
scope_reads scopes.Global = refl
scope_reads scopes.Local = refl

pub scope_fits : (scope : Scope) → IsWord 6 (scope_text scope)
scope_fits scopes.Global = record { form = refl; short = omega arith }
scope_fits scopes.Local = record { form = refl; short = omega arith }

pub kind_reads : (kind : EventKind) → kind_of (kind_number kind) ≡ Ok kind
unfolding kind_of
kind_reads kinds.Debug = refl
kind_reads kinds.Information = refl
kind_reads kinds.Error = refl
kind_reads kinds.Critical = refl

pub kind_small : (kind : EventKind) → nat_le (kind_number kind) 4 ≡ true
kind_small kinds.Debug = refl
kind_small kinds.Information = refl
kind_small kinds.Error = refl
kind_small kinds.Critical = refl

-- ---- bytes as digits

pub hex_word_reads : (bytes : List ℕ) → is_spelled bytes ≡ true → hex_word (hex_bytes bytes) ≡ Ok tt
unfolding hex_word
hex_word_reads bytes h = let form = hex_text_form bytes h in rw form refl

-- ---- list elements

-- no byte of it is a colon
abbrev pub is_part : List ℕ → Bool
is_part part = list_all (λ byte. not (is_colon byte)) part

cut_after : (part rest : List ℕ) → is_part part ≡ true → slice_split is_colon (part ++ 58 ∷ rest) ≡ part ∷ slice_split is_colon rest
cut_after [] rest h = refl
cut_after (byte ∷ part) rest h =
    slice_split-cons_no is_colon byte (part ++ 58 ∷ rest) (not_true (is_colon byte) (and_first (not (is_colon byte)) (is_part part) h)) ∙ ap (onto_first byte) (cut_after part rest (and_second (not (is_colon byte)) (is_part part) h))

cut_none : (part : List ℕ) → is_part part ≡ true → slice_split is_colon part ≡ part ∷ []
cut_none [] h = refl
cut_none (byte ∷ part) h =
    slice_split-cons_no is_colon byte part (not_true (is_colon byte) (and_first (not (is_colon byte)) (is_part part) h)) ∙ ap (onto_first byte) (cut_none part (and_second (not (is_colon byte)) (is_part part) h))

parts_2 : (a b : List ℕ) → is_part a ≡ true → is_part b ≡ true → parts_of ((a ++ 58 ∷ []) ++ b) ≡ a ∷ b ∷ []
unfolding parts_of
parts_2 a b one other = ap (slice_split is_colon) (append_assoc a (58 ∷ []) b) ∙ cut_after a b one ∙ ap (λ parts. a ∷ parts) (cut_none b other)

parts_3 : (a b c : List ℕ) → is_part a ≡ true → is_part b ≡ true → is_part c ≡ true → parts_of ((((a ++ 58 ∷ []) ++ b) ++ 58 ∷ []) ++ c) ≡ a ∷ b ∷ c ∷ []
unfolding parts_of
parts_3 a b c one other third =
    let regrouped : (((a ++ 58 ∷ []) ++ b) ++ 58 ∷ []) ++ c ≡ a ++ 58 ∷ (b ++ 58 ∷ c) = simp append_assoc in
    ap (slice_split is_colon) regrouped ∙ cut_after a (b ++ 58 ∷ c) one ∙ ap (λ parts. a ∷ parts) (cut_after b c other) ∙ ap (λ parts. a ∷ b ∷ parts) (cut_none c third)

digit_no_colon : (byte : ℕ) → is_digit byte ≡ true → not (is_colon byte) ≡ true
digit_no_colon byte h = let high = at_most 48 57 byte h in ap not (differ byte 58 (λ e. omega arith))

decimal_part : (n : ℕ) → n < 4294967296 → is_part (decimal n) ≡ true
decimal_part n small = all_weaker is_digit (λ byte. not (is_colon byte)) digit_no_colon (decimal n) (decimal_digits n (omega arith))

hex_part : (id : ℕ) → id ≤ 65535 → is_part (hex_id id) ≡ true
hex_part id small =
    both (ap not (hex_here (id / 256 / 16) (omega arith)).no_colon) (both (ap not (hex_here (id / 256 % 16) (omega arith)).no_colon) (both (ap not (hex_here (id % 256 / 16) (omega arith)).no_colon) (both (ap not (hex_here (id % 256 % 16) (omega arith)).no_colon) refl)))

numbers_2-reads : (a b : List ℕ) (m n : ℕ) → number_of a ≡ Ok m → number_of b ≡ Ok n → numbers_2 (a ∷ b ∷ []) ≡ Ok (m, n)
unfolding numbers_2
numbers_2-reads a b m n one other = rw (one, other) refl

numbers_3-reads : (a b c : List ℕ) (l m n : ℕ) → number_of a ≡ Ok l → number_of b ≡ Ok m → number_of c ≡ Ok n → numbers_3 (a ∷ b ∷ c ∷ []) ≡ Ok (l, m, n)
unfolding numbers_3 number_and_2
numbers_3-reads a b c l m n one other third = let two = numbers_2-reads b c m n other third in rw (one, two) refl

-- ---- filters

pub filter_reads : (pair : ℕ × ℕ) → is_filter pair ≡ true → pair_word (filter_text pair) ≡ Ok pair
unfolding pair_word
filter_reads pair h =
    let first = and_first (nat_le pair.0 65535) (nat_le pair.1 65535) h in
    let second = and_second (nat_le pair.0 65535) (nat_le pair.1 65535) h in
    let a = leb-true pair.0 65535 first in
    let b = leb-true pair.1 65535 second in
    ap numbers_2 (parts_2 (decimal pair.0) (hex_id pair.1) (decimal_part pair.0 (omega arith)) (hex_part pair.1 b))
    ∙ numbers_2-reads (decimal pair.0) (hex_id pair.1) pair.0 pair.1 (number_reads 65535 pair.0 first refl) (id_reads pair.1 second)

pub filter_kept : (pair : ℕ × ℕ) → is_filter pair ≡ true → filter_of pair ≡ Ok pair
unfolding filter_of
filter_kept pair h = rw h refl

word_of_parts : (a b : List ℕ) (most others : ℕ) → IsWord most a → IsWord others b → IsWord (most + 1 + others) ((a ++ 58 ∷ []) ++ b)
word_of_parts [] b most others one other = absurd (let f = one.form in cc)
word_of_parts (x ∷ a) b most others one other = record {
  form = all_append is_visible ((x ∷ a) ++ 58 ∷ []) b (all_append is_visible (x ∷ a) (58 ∷ []) one.form refl) (and_second (has_bytes b) (list_all is_visible b) other.form);
  short = let p = one.short in let q = other.short in omega (arith, length-append ((x ∷ a) ++ 58 ∷ []) b, length-append (x ∷ a) (58 ∷ []));
}

pub filter_fits : (pair : ℕ × ℕ) → is_filter pair ≡ true → IsWord 17 (filter_text pair)
filter_fits pair h =
    word_of_parts (decimal pair.0) (hex_id pair.1) 10 6
    (number_fits 65535 pair.0 (and_first (nat_le pair.0 65535) (nat_le pair.1 65535) h) refl) (id_fits pair.1 (and_second (nat_le pair.0 65535) (nat_le pair.1 65535) h))

-- ---- rules

pub rule_reads : (rule : Rule) → is_rule rule ≡ true → triple_word (rule_text rule) ≡ Ok (rule.offset, rule.low, rule.high)
unfolding triple_word
rule_reads rule h =
    let front = and_first _ _ h in
    let first = and_first (nat_le rule.offset 65535) (nat_le rule.low 255) front in
    let second = and_second (nat_le rule.offset 65535) (nat_le rule.low 255) front in
    let third = and_second (nat_le rule.offset 65535 && nat_le rule.low 255) (nat_le rule.high 255) h in
    let a = leb-true rule.offset 65535 first in
    let b = leb-true rule.low 255 second in
    let c = leb-true rule.high 255 third in
    ap numbers_3 (parts_3 (decimal rule.offset) (decimal rule.low) (decimal rule.high) (decimal_part rule.offset (omega arith)) (decimal_part rule.low (omega arith)) (decimal_part rule.high (omega arith)))
    ∙ numbers_3-reads (decimal rule.offset) (decimal rule.low) (decimal rule.high) rule.offset rule.low rule.high (number_reads 65535 rule.offset first refl) (number_reads 255 rule.low second refl) (number_reads 255 rule.high third refl)

pub rule_kept : (rule : Rule) → is_rule rule ≡ true → rule_of (rule.offset, rule.low, rule.high) ≡ Ok rule
unfolding rule_of
rule_kept rule h = rw h refl

pub rule_fits : (rule : Rule) → is_rule rule ≡ true → IsWord 32 (rule_text rule)
rule_fits rule h =
    let front = and_first _ _ h in
    let first = and_first (nat_le rule.offset 65535) (nat_le rule.low 255) front in
    let second = and_second (nat_le rule.offset 65535) (nat_le rule.low 255) front in
    let third = and_second (nat_le rule.offset 65535 && nat_le rule.low 255) (nat_le rule.high 255) h in
    word_of_parts ((decimal rule.offset ++ 58 ∷ []) ++ decimal rule.low) (decimal rule.high) 21 10
    (word_of_parts (decimal rule.offset) (decimal rule.low) 10 10 (number_fits 65535 rule.offset first refl) (number_fits 255 rule.low second refl)) (number_fits 255 rule.high third refl)

-- ---- lists of elements

pub each-map : {X Y : Type 0} (p : X → Bool) (read : Word → Result Y FaultKind) (f : X → Word) (g : X → Y) → ((x : X) → p x ≡ true → read (f x) ≡ Ok (g x)) → (xs : List X) → list_all p xs ≡ true → each read (map f xs) ≡ Ok (map g xs)
unfolding each
each-map p read f g one [] all = refl
each-map p read f g one (x ∷ xs) all =
    let first = one x (and_first (p x) (list_all p xs) all) in
    let others = each-map p read f g one xs (and_second (p x) (list_all p xs) all) in
    rw (first, others) refl

pub each-same : {X Y : Type 0} (p : X → Bool) (read : Y → Result X FaultKind) (g : X → Y) → ((x : X) → p x ≡ true → read (g x) ≡ Ok x) → (xs : List X) → list_all p xs ≡ true → each read (map g xs) ≡ Ok xs
unfolding each
each-same p read g one [] all = refl
each-same p read g one (x ∷ xs) all =
    let first = one x (and_first (p x) (list_all p xs) all) in
    let others = each-same p read g one xs (and_second (p x) (list_all p xs) all) in
    rw (first, others) refl

pub map-self : {X : Type 0} (xs : List X) → map (λ x. x) xs ≡ xs
map-self [] = refl
map-self (x ∷ xs) = ap (λ l. x ∷ l) (map-self xs)

-- so many words, each of so many bytes
pub elements_fit : {X : Type 0} (p : X → Bool) (f : X → Word) (most : ℕ) → ((x : X) → p x ≡ true → IsWord most (f x)) → (xs : List X) (n : ℕ) → length xs ≤ n → list_all p xs ≡ true → AreWords (n * (1 + most)) (map f xs)
elements_fit p f most one [] n few all = record { forms = refl; short = omega arith }
elements_fit p f most one (x ∷ xs) n few all =
    let first = one x (and_first (p x) (list_all p xs) all) in
    let others = elements_fit p f most one xs (length xs) (omega arith) (and_second (p x) (list_all p xs) all) in
    let a = first.short in
    let b = others.short in
    record {
      forms = both first.form others.forms;
      short = more (length xs) (length (behind (map f xs))) n (length (f x)) (length (behind (f x ∷ map f xs))) few b a (let e = length-append (f x) (behind (map f xs)) in omega arith);
    }
  where
    more : (count rest most_count word all_bytes : ℕ) → suc count ≤ most_count → rest ≤ count * (1 + most) → word ≤ most → all_bytes ≡ 1 + word + rest → all_bytes ≤ most_count * (1 + most)
    more count rest most_count word all_bytes le small short same =
        let steps : suc count * (1 + most) ≤ most_count * (1 + most) = grind arith in
        omega (arith, steps)

pub map_length : {X Y : Type 0} (f : X → Y) (xs : List X) → length (map f xs) ≡ length xs
map_length f [] = refl
map_length f (x ∷ xs) = ap suc (map_length f xs)

-- ---- contents

no_fill : (bytes : List ℕ) → is_spelled bytes ≡ true → starts_with (λ a b. eqb a b) (hex_bytes bytes) (codes "fill:") ≡ false
no_fill [] h = absurd cc
no_fill (byte ∷ bytes) h =
    let small = leb-true byte 255 (and_first (nat_le byte 255) (list_all (λ b. nat_le b 255) bytes) (and_second (nat_le 1 (length (byte ∷ bytes)) && nat_le (length (byte ∷ bytes)) 256) (list_all (λ b. nat_le b 255) (byte ∷ bytes)) h)) in
    let high = (hex_here (byte % 16) (omega arith)).high in
    let other : eqb 105 (hex_digit (byte % 16)) ≡ false = differ 105 (hex_digit (byte % 16)) (λ e. omega arith) in
    rw other (elim (eqb 102 (hex_digit (byte / 16))) as (λ b. (b && false) ≡ false) [ true ↦ refl | false ↦ refl ])

-- what the reader takes from the word of a content
pub record ReadsContent (content : Content) (filling : Option (ℕ × ℕ)) : Type 0 where
  pub filled : filling_of (content_text content) ≡ Ok filling
  pub kept : content_of (content_text content) filling ≡ Ok content

pub hex_content : (bytes : List ℕ) → is_spelled bytes ≡ true → ReadsContent (Hex bytes) None
unfolding filling_of content_of
hex_content bytes h =
    let none = no_fill bytes h in
    let form = hex_text_form bytes h in
    record { filled = rw (none, form) refl; kept = ap (λ l. Ok (Hex l)) (hex_text_reads bytes h) }

pub fill_content : (len byte : ℕ) → is_content (Fill len byte) ≡ true → ReadsContent (Fill len byte) (Some (len, byte))
unfolding filling_of content_of
fill_content len byte h =
    let counts = and_first (nat_le 1 len && nat_le len 65536) (nat_le byte 255) h in
    let some = and_first (nat_le 1 len) (nat_le len 65536) counts in
    let few = and_second (nat_le 1 len) (nat_le len 65536) counts in
    let small = and_second (nat_le 1 len && nat_le len 65536) (nat_le byte 255) h in
    let a = leb-true len 65536 few in
    let b = leb-true byte 255 small in
    let parts = parts_2 (decimal len) (decimal byte) (decimal_part len (omega arith)) (decimal_part byte (omega arith)) in
    let two = numbers_2-reads (decimal len) (decimal byte) len byte (number_reads 65536 len few refl) (number_reads 255 byte small refl) in
    let one_range = within_reads 1 65536 len some few in
    let other_range = within_most 255 byte small in
    record {
      filled = rw (parts, two) refl;
      kept = rw (one_range, other_range) refl;
    }

pub fill_fits : (len byte : ℕ) → is_content (Fill len byte) ≡ true → IsWord 26 (content_text (Fill len byte))
fill_fits len byte h =
    let counts = and_first (nat_le 1 len && nat_le len 65536) (nat_le byte 255) h in
    let few = and_second (nat_le 1 len) (nat_le len 65536) counts in
    let small = and_second (nat_le 1 len && nat_le len 65536) (nat_le byte 255) h in
    let numbers = word_of_parts (decimal len) (decimal byte) 10 10 (number_fits 65536 len few refl) (number_fits 255 byte small refl) in
    let short = numbers.short in
    record {
      form = and_second (has_bytes ((decimal len ++ 58 ∷ []) ++ decimal byte)) (list_all is_visible ((decimal len ++ 58 ∷ []) ++ decimal byte)) numbers.form;
      short = omega arith;
    }
