-- The two parts of an input that is checked: a script and a report, with a line `---` between them.
use Rattle.std.specs.Prelude.{ℕ, ◌||◌, Bool, List, [], ◌∷◌, ◌++◌, codes, Option, Some, None, if◌then◌else◌}
use Rattle.std.specs.Str.{bytes_eq}
use Rattle.script_words.specs.Text.{is_feed}

-- whether a line, without its feed, stands between the two parts
abbrev pub is_mark : List ℕ → Bool
is_mark line = bytes_eq line (codes "---") || bytes_eq line (codes "---\r")

-- the parts of these lines, of this front of a line, and of the text behind them, if none of the
-- lines stands between two parts
abbrev pub parts_from : List ℕ → List ℕ → List ℕ → Option (List ℕ × List ℕ)
parts_from lines line [] = if is_mark line then Some (lines, []) else None
parts_from lines line (byte ∷ text) =
    if is_feed byte
    then (if is_mark line then Some (lines, text)
    else parts_from (lines ++ line ++ byte ∷ []) [] text)
    else parts_from lines (line ++ byte ∷ []) text

-- the bytes before the first line that stands between two parts, and those behind it; none if no
-- line does
abbrev pub parts_in : List ℕ → Option (List ℕ × List ℕ)
parts_in input = parts_from [] [] input
