-- Numbers, registers and bytes as a script spells them.
use Rattle.std.specs.Prelude.{ℕ, ◌+◌, ◌-◌, ◌*◌, ◌%◌, ◌==◌, ◌||◌, ◌&&◌, not, nat_le, nat_lt, Bool, false, List, [], ◌∷◌, length, drop, fold, Result, Ok, Err, if◌then◌else◌}
use Rattle.std.specs.List.{list_all, starts_with, slice_split}
use Rattle.fsw_base.specs.declared.script_faults.FaultKind.{FaultKind}
use Rattle.fsw_base.specs.declared.script_faults.FaultKind.TheVariants.{BadWord, OutOfRange}
use Rattle.script_words.specs.Readings.{◌>>=◌}
use Rattle.script_words.specs.Text.{has_bytes}

abbrev pub is_digit : ℕ → Bool
is_digit byte = nat_le 48 byte && nat_le byte 57

abbrev pub is_upper_digit : ℕ → Bool
is_upper_digit byte = nat_le 65 byte && nat_le byte 70

abbrev pub is_lower_digit : ℕ → Bool
is_lower_digit byte = nat_le 97 byte && nat_le byte 102

-- a hexadecimal digit of either case
abbrev pub is_hex_digit : ℕ → Bool
is_hex_digit byte = is_digit byte || is_upper_digit byte || is_lower_digit byte

-- what a hexadecimal digit stands for
unfoldable pub digit_value : ℕ → ℕ
digit_value byte =
    if is_digit byte then byte - 48
    else (if is_upper_digit byte then byte - 55 else (if is_lower_digit byte then byte - 87 else 0))

-- the number that digits spell in a base
abbrev pub value_in : ℕ → List ℕ → ℕ
value_in base digits = fold (λ n digit. n * base + digit_value digit) 0 digits

-- decimal digits without a needless 0 at the front
unfoldable pub is_decimal : List ℕ → Bool
is_decimal [] = false
is_decimal (first ∷ digits) =
    list_all is_digit (first ∷ digits) && (not (first == 48) || not (has_bytes digits))

-- one to eight hexadecimal digits
abbrev pub is_hexadecimal : List ℕ → Bool
is_hexadecimal digits =
    nat_le 1 (length digits) && nat_le (length digits) 8 && list_all is_hex_digit digits

-- A number is at most 4294967295; what is past it is no number.
abbrev pub small : ℕ → Result ℕ FaultKind
small n = if nat_le n 4294967295 then Ok n else Err BadWord

-- A number: decimal digits, or hexadecimal ones behind 0x.
unfoldable pub number_of : List ℕ → Result ℕ FaultKind
number_of word =
    if starts_with (λ a b. a == b) word (48 ∷ 120 ∷ [])
    then (if is_hexadecimal (drop 2 word) then small (value_in 16 (drop 2 word)) else Err BadWord)
    else (if is_decimal word then small (value_in 10 word) else Err BadWord)

-- A register: its letter, and a decimal number below the count of such registers.
unfoldable pub register_of : ℕ → ℕ → List ℕ → Result ℕ FaultKind
register_of letter count [] = Err BadWord
register_of letter count (first ∷ digits) =
    if (first == letter) && is_decimal digits && nat_lt (value_in 10 digits) count
    then Ok (value_in 10 digits) else Err BadWord

-- whether a number is in its range
unfoldable pub within : ℕ → ℕ → ℕ → Result ℕ FaultKind
within low high n = if nat_le low n && nat_le n high then Ok n else Err OutOfRange

-- HEX: an even number of hexadecimal digits, 2 to 512
unfoldable pub is_hex : List ℕ → Bool
is_hex word =
    (length word % 2 == 0) && nat_le 2 (length word) && nat_le (length word) 512 &&
    list_all is_hex_digit word

-- two digits make a byte
abbrev pub hex_bytes : List ℕ → List ℕ
hex_bytes [] = []
hex_bytes (high ∷ []) = []
hex_bytes (high ∷ low ∷ digits) = (16 * digit_value high + digit_value low) ∷ hex_bytes digits

abbrev pub is_colon : ℕ → Bool
is_colon byte = byte == 58

-- the parts of a list element, between its colons
unfoldable pub parts_of : List ℕ → List (List ℕ)
parts_of word = slice_split is_colon word

-- two numbers with a colon between, three with colons
unfoldable pub numbers_2 : List (List ℕ) → Result (ℕ × ℕ) FaultKind
numbers_2 (first ∷ second ∷ []) = do
  a ← number_of first
  b ← number_of second
  Ok (a, b)
numbers_2 parts = Err BadWord

unfoldable pub number_and_2 : List ℕ → List (List ℕ) → Result (ℕ × ℕ × ℕ) FaultKind
number_and_2 first parts = do
  a ← number_of first
  others ← numbers_2 parts
  Ok (a, others.0, others.1)

unfoldable pub numbers_3 : List (List ℕ) → Result (ℕ × ℕ × ℕ) FaultKind
numbers_3 [] = Err BadWord
numbers_3 (first ∷ []) = Err BadWord
numbers_3 (first ∷ second ∷ parts) = number_and_2 first (second ∷ parts)

-- the registers: pipes, buffers, pools, grants and table handles
unfoldable pub pipe_of : List ℕ → Result ℕ FaultKind
pipe_of word = register_of 112 64 word

unfoldable pub buffer_of : List ℕ → Result ℕ FaultKind
buffer_of word = register_of 98 64 word

unfoldable pub pool_of : List ℕ → Result ℕ FaultKind
pool_of word = register_of 113 8 word

unfoldable pub grant_of : List ℕ → Result ℕ FaultKind
grant_of word = register_of 109 64 word

unfoldable pub table_of : List ℕ → Result ℕ FaultKind
table_of word = register_of 116 64 word
