-- Numbers of a command line, by how a script's numbers read; names of tables, and lists that are filled.
use Rattle.std.proofs.Common.{◌≡◌, ℕ, ◌==◌, ◌&&◌, nat_le, Bool, true, false, List, [], ◌∷◌, ◌++◌, length, take, drop, arith, append-nil, Some, None, Result, Ok, Err, if◌then◌else◌, refl, ap, ◌∙◌}
use Rattle.std.specs.List.{starts_with, list_all}
use Rattle.std.proofs.lemmas.Bool.{leb-true}
use Rattle.std.proofs.lemmas.List.{take_all, drop_all}
use Rattle.tbl_file.specs.Image.{is_table_name}
use Rattle.std.specs.Result.{result_ok}
use Rattle.fsw_base.specs.declared.script_faults.FaultKind.{FaultKind}
use Rattle.fsw_base.specs.declared.script_faults.FaultKind.TheVariants.{BadWord}
use Rattle.script_words.specs.Numbers.{is_decimal, is_hexadecimal, number_of, small, value_in}
use Rattle.script_words.specs.Readings.{Reads}
use Rattle.host_serve.specs.Words.{decimal_number}

-- what a reader found is the reading
pub found : (result : Result ℕ FaultKind) (reading : Result ℕ FaultKind) → Reads (λ n. n) result reading → reading ≡ result
found (Ok n) reading reads = reads
found (Err fault) reading reads = reads

-- a hexadecimal number is none in decimal
pub hexadecimal-none : (word : List ℕ) → word ≡ 48 ∷ 120 ∷ drop 2 word → decimal_number word ≡ None
unfolding is_decimal
hexadecimal-none word hexadecimal = ap decimal_number hexadecimal

-- any other number that a script reads is one in decimal
pub decimal-read : (word : List ℕ) → starts_with (λ a b. a == b) word (48 ∷ 120 ∷ []) ≡ false → result_ok (number_of word) ≡ decimal_number word
unfolding number_of
decimal-read word plain =
    ap (λ b. result_ok (if b then (if is_hexadecimal (drop 2 word) then small (value_in 16 (drop 2 word)) else Err BadWord)
    else (if is_decimal word then small (value_in 10 word) else Err BadWord))) plain
    ∙ both (is_decimal word) (nat_le (value_in 10 word) 4294967295) (value_in 10 word)
  where
    both : (decimal few : Bool) (n : ℕ) → result_ok (if decimal then (if few then Ok n else Err BadWord) else Err BadWord) ≡ (if decimal && few then Some n else None)
    both true true n = refl
    both true false n = refl
    both false few n = refl

both_parts : (a b : Bool) → (a && b) ≡ true → (a ≡ true) × (b ≡ true)
both_parts true b h = (refl, h)
both_parts false b h = absurd cc

-- a word keeps the name of a table whole
pub name_kept : (name : List ℕ) → is_table_name name ≡ true → take 64 name ≡ name
unfolding is_table_name
name_kept name named =
    let sizes = (both_parts (nat_le 1 (length name) && nat_le (length name) 39) (list_all (λ byte. nat_le 0x21 byte && nat_le byte 0x7e) name) named).0 in
    let few = leb-true (length name) 39 (both_parts (nat_le 1 (length name)) (nat_le (length name) 39) sizes).1 in
    take_all 64 name (omega (arith, few))

-- a list that was filled from front to end is what it was filled with
pub all_filled : (count : ℕ) (filled items : List ℕ) → length filled ≡ count → length items ≡ count → take count (filled ++ drop (length filled) items) ≡ filled
all_filled count filled items new old =
    ap (λ l. take count (filled ++ l)) (drop_all (length filled) items (omega (arith, new, old)))
    ∙ ap (take count) (append-nil filled)
    ∙ take_all count filled (omega (arith, new))
