-- Names, modes, scopes and contents.
use Rattle.std.specs.Prelude.{ℕ, ◌==◌, nat_le, Bool, true, false, List, [], length, drop, Option, Some, None, Result, Ok, Err, codes, if◌then◌else◌}
use Rattle.std.specs.List.{starts_with}
use Rattle.fsw_base.specs.declared.script_faults.FaultKind.{FaultKind}
use Rattle.fsw_base.specs.declared.script_faults.FaultKind.TheVariants.{BadWord, OutOfRange}
use Rattle.fsw_base.specs.declared.config.Scope.{Scope}
use Rattle.fsw_base.specs.declared.config.Scope.TheVariants.{Global, Local}
use Rattle.script_words.specs.Readings.{◌>>=◌}
use Rattle.script_words.specs.Text.{is_same}
use Rattle.script_words.specs.Counts.{Word}
use Rattle.script_words.specs.Numbers.{within, is_hex, hex_bytes, parts_of, numbers_2}
use Rattle.script_words.specs.declared.content.Content.{Content}
use Rattle.script_words.specs.declared.content.Content.TheVariants.{Hex, Fill}

-- NAME: any word of at most 64 bytes; a hyphen alone is the empty name
unfoldable pub name_of : Word → Result (List ℕ) FaultKind
name_of word =
    if is_same word (codes "-") then Ok []
    else (if nat_le (length word) 64 then Ok word else Err OutOfRange)

-- the mode's word: whether a send counts on
unfoldable pub mode_word : Word → Result Bool FaultKind
mode_word word =
    if is_same word (codes "inc") then Ok true
    else (if is_same word (codes "keep") then Ok false else Err BadWord)

-- the mode: inc if the word is left out
unfoldable pub mode_of : Option Word → Result Bool FaultKind
mode_of None = Ok true
mode_of (Some word) = mode_word word

unfoldable pub scope_word : Word → Result Scope FaultKind
scope_word word =
    if is_same word (codes "global") then Ok Global
    else (if is_same word (codes "local") then Ok Local else Err BadWord)

-- the scope: global if the word is left out
unfoldable pub scope_of : Option Word → Result Scope FaultKind
scope_of None = Ok Global
scope_of (Some word) = scope_word word

-- CONTENT: `fill:LEN:BYTE`, whose numbers these are, or HEX
unfoldable pub filling_of : Word → Result (Option (ℕ × ℕ)) FaultKind
filling_of word =
    if starts_with (λ a b. a == b) word (codes "fill:")
    then (numbers_2 (parts_of (drop 5 word)) >>= λ fill. Ok (Some fill))
    else (if is_hex word then Ok None else Err BadWord)

-- the content that the word spells, if its filling is in range
unfoldable pub content_of : Word → Option (ℕ × ℕ) → Result Content FaultKind
content_of word None = Ok (Hex (hex_bytes word))
content_of word (Some fill) = do
  len ← within 1 65536 fill.0
  byte ← within 0 255 fill.1
  Ok (Fill len byte)

-- how many bytes a content has
abbrev pub content_len : Content → ℕ
content_len (Hex bytes) = length bytes
content_len (Fill len byte) = len
