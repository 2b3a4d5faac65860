-- The lines of a script, and the words of a line.
use Rattle.std.specs.Prelude.{ℕ, ◌-◌, ◌==◌, ◌||◌, ◌&&◌, not, nat_le, Bool, true, false, List, [], ◌∷◌, length, map, filter, take, drop, reverse, if◌then◌else◌}
use Rattle.std.specs.List.{slice_split, position_or_len, ends_with}

-- what ends a line
abbrev pub is_feed : ℕ → Bool
is_feed byte = byte == 10

-- a space or a tab
abbrev pub is_blank : ℕ → Bool
is_blank byte = (byte == 32) || (byte == 9)

abbrev pub is_no_blank : ℕ → Bool
is_no_blank byte = not (is_blank byte)

-- printable ASCII, or a tab
abbrev pub is_text : ℕ → Bool
is_text byte = nat_le 32 byte && nat_le byte 126 || (byte == 9)

-- whether two words are the same
abbrev pub is_same : List ℕ → List ℕ → Bool
is_same [] [] = true
is_same [] (b ∷ bs) = false
is_same (a ∷ as_) [] = false
is_same (a ∷ as_) (b ∷ bs) = (a == b) && is_same as_ bs

-- the line, without one carriage return at its end
abbrev pub without_return : List ℕ → List ℕ
without_return line =
    if ends_with (λ a b. a == b) line (13 ∷ []) then take (length line - 1) line else line

-- whether there is a byte
abbrev pub has_bytes : List ℕ → Bool
has_bytes [] = false
has_bytes (byte ∷ bytes) = true

-- the lines, without an empty one at the end
abbrev pub without_empty_last : List (List ℕ) → List (List ℕ)
without_empty_last [] = []
without_empty_last (line ∷ []) = if has_bytes line then (line ∷ []) else []
without_empty_last (line ∷ next ∷ lines) = line ∷ without_empty_last (next ∷ lines)

-- The lines of a script: what stands between its line feeds. If it ends with one, no line
-- follows.
unfoldable pub lines_of : List ℕ → List (List ℕ)
lines_of bytes = map without_return (without_empty_last (slice_split is_feed bytes))

-- the words of a line, between its blanks
unfoldable pub words_of : List ℕ → List (List ℕ)
words_of line = filter has_bytes (slice_split is_blank line)

-- the line from its first word on
abbrev pub from_word : List ℕ → List ℕ
from_word line = drop (position_or_len is_no_blank line) line

-- the line behind its first word
abbrev pub behind_word : List ℕ → List ℕ
behind_word line = drop (position_or_len is_blank (from_word line)) (from_word line)

-- the text without the blanks at its end
abbrev pub without_blanks_behind : List ℕ → List ℕ
without_blanks_behind text = take (length text - position_or_len is_no_blank (reverse text)) text

-- the text without the blanks round it
abbrev pub trimmed : List ℕ → List ℕ
trimmed text = without_blanks_behind (from_word text)
