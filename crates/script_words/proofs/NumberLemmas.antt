-- Laws of numbers as a script spells them.
use Rattle.std.proofs.Common.{◌≡◌, ℕ, ◌+◌, ◌*◌, ◌<◌, ◌≤◌, List, [], ◌∷◌, ◌++◌, append_assoc, length, take, drop, get_or, Some, None, Err, refl, sym, ap, ◌∙◌, arith}
use Rattle.std.specs.Prelude.{position}
use Rattle.std.specs.List.{position_or_len}
use Rattle.std.proofs.lemmas.List.{append-nil}
use Rattle.std.proofs.lemmas.List.Splits.{slice_split_first}
use Rattle.script_words.specs.Numbers.{digit_value, is_colon, parts_of, numbers_2, number_and_2, numbers_3, hex_bytes}
use Rattle.fsw_base.specs.declared.script_faults.FaultKind.TheVariants.{BadWord}
use Rattle.script_words.proofs.TextLemmas.{place_some, place_none, no_cut, split_parts}

-- what stands before the first colon and what follows it
pub parts_cut : (word part behind : List ℕ) (i : ℕ) → Some i ≡ position is_colon word → part ≡ take i word → behind ≡ drop (i + 1) word → parts_of word ≡ part ∷ parts_of behind
unfolding parts_of
parts_cut word part behind i at front back =
    let p = place_some is_colon word i (sym at) in
    let lt : position_or_len is_colon word < length word = omega arith in
    rw (front, back) (rw p.0 at (slice_split_first is_colon word 0 lt))

pub parts_alone : (word : List ℕ) → None ≡ position is_colon word → parts_of word ≡ word ∷ []
unfolding parts_of
parts_alone word at = no_cut is_colon word (place_none is_colon word (sym at))

-- behind a colon there is a part at least
pub parts_some : (word : List ℕ) → (part : List ℕ) × (parts : List (List ℕ)) × (parts_of word ≡ part ∷ parts)
unfolding parts_of
parts_some word = split_parts is_colon word

-- three parts or more are no two numbers
pub numbers_2-many : (word first second third behind : List ℕ) → parts_of word ≡ first ∷ parts_of second → parts_of second ≡ third ∷ parts_of behind → numbers_2 (parts_of word) ≡ Err BadWord
unfolding numbers_2
numbers_2-many word first second third behind one two =
    let more = parts_some behind in
    rw (one, two, more.2) refl

-- a first part and what follows it are three numbers if what follows is two
pub numbers_3-cut : (word first others : List ℕ) → parts_of word ≡ first ∷ parts_of others → numbers_3 (parts_of word) ≡ number_and_2 first (parts_of others)
unfolding numbers_3
numbers_3-cut word first others one =
    let more = parts_some others in
    rw (one, more.2) refl

hex_front : (rest : List ℕ) → 2 ≤ length rest → hex_bytes rest ≡ (16 * digit_value (get_or (take 2 rest) 0 0) + digit_value (get_or (take 2 rest) 1 0)) ∷ hex_bytes (drop 2 rest)
hex_front [] two = absurd (omega arith)
hex_front (high ∷ []) two = absurd (omega arith)
hex_front (high ∷ low ∷ digits) two = refl

-- two more digits are a byte more
pub hex_more : (items new rest digits pair all : List ℕ) (high low : ℕ) → 2 ≤ length rest → pair ≡ take 2 rest → digits ≡ drop 2 rest → high ≡ digit_value (get_or pair 0 0) → low ≡ digit_value (get_or pair 1 0)
    → new ≡ items ++ (16 * high + low) ∷ [] → items ++ hex_bytes rest ≡ all → new ++ hex_bytes digits ≡ all
hex_more items new rest digits pair all high low two front back at_0 at_1 pushed so_far =
    let byte : 16 * high + low ≡ 16 * digit_value (get_or (take 2 rest) 0 0) + digit_value (get_or (take 2 rest) 1 0) = rw (at_0, at_1, front) refl in
    let regrouped : (items ++ (16 * high + low) ∷ []) ++ hex_bytes (drop 2 rest) ≡ items ++ ((16 * high + low) ∷ hex_bytes (drop 2 rest)) = append_assoc items ((16 * high + low) ∷ []) (hex_bytes (drop 2 rest)) in
    rw (pushed, back) (regrouped ∙ ap (λ b. items ++ (b ∷ hex_bytes (drop 2 rest))) byte ∙ ap (λ (x : List ℕ). items ++ x) (sym (hex_front rest two)) ∙ so_far)

-- fewer than two digits are no byte
pub hex_end : (items rest all : List ℕ) → length rest < 2 → items ++ hex_bytes rest ≡ all → items ≡ all
hex_end items [] all few so_far = sym (append-nil items) ∙ so_far
hex_end items (high ∷ []) all few so_far = sym (append-nil items) ∙ so_far
hex_end items (high ∷ low ∷ digits) all few so_far = absurd (omega arith)
