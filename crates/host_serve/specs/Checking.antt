-- What the word `check` reads and writes, as bytes.
use Rattle.std.specs.Prelude.{ℕ, List, ◌++◌, codes, decimal}

-- the most bytes of a script, a line `---` and a report that `check` takes
abbrev pub most_checked : ℕ
most_checked = 33554432

-- the line on a report that is a run's
abbrev pub legal_text : List ℕ
legal_text = codes "legal\n"

-- the line on another, with the number of the first line up to which it is no run's
abbrev pub illegal_text : ℕ → List ℕ
illegal_text line = codes "illegal:" ++ decimal line ++ codes "\n"

-- the line that says that no line `---` is there
abbrev pub missing_text : List ℕ
missing_text = codes "script:0:MissingPart\n"
