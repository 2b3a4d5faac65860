-- An application's unsent buffers, in a list.
use Rattle.std.specs.Prelude.{ℕ, ◌==◌, List, find, map, if◌then◌else◌}
use Rattle.std.specs.Option.{option_map}
use Rattle.script_runs.specs.Written.{Written}

-- A buffer: its number, and its bytes as they were written.
pub record Row : Type 0 where
  pub number : ℕ
  pub text : List ℕ

-- what the application wrote into the buffer of each number
abbrev pub written_in : List Row → Written
written_in rows = λ number. option_map (λ row. row.text) (find (λ row. row.number == number) rows)

-- the row with its bytes changed so, if it has this number
abbrev pub row_changed : ℕ → (List ℕ → List ℕ) → Row → Row
row_changed number change row =
    if row.number == number then (record row { text = change row.text }) else row

-- the rows, with that of this number changed
abbrev pub rows_changed : ℕ → (List ℕ → List ℕ) → List Row → List Row
rows_changed number change rows = map (row_changed number change) rows
