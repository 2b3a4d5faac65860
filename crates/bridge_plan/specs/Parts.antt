-- The parts of a plan's text: the routes, the script of side 1 and that of side 2, with a line
-- `---` between two of them.
use Rattle.std.specs.Prelude.{ℕ, Bool, List, count_by, codes}
use Rattle.std.specs.List.{before_first, after_first}
use Rattle.script_words.specs.Text.{is_same}

-- whether a line stands between two parts
abbrev pub is_mark : List ℕ → Bool
is_mark line = is_same line (codes "---")

-- how many lines do
abbrev pub marks_in : List (List ℕ) → ℕ
marks_in lines = count_by is_mark lines

-- the lines before the first mark
abbrev pub front_of : List (List ℕ) → List (List ℕ)
front_of lines = before_first is_mark lines

-- the lines behind the first mark
abbrev pub behind_mark : List (List ℕ) → List (List ℕ)
behind_mark lines = after_first is_mark lines
