-- How a store keeps its rows: in one list, with their bytes one after another in another.
use Rattle.std.specs.Prelude.{ℕ, ◌+◌, ◌^◌, ◌<◌, ◌≤◌, ◌≡◌, List, length, map, All, slice_range}
use Rattle.fsw_base.specs.declared.config.Budget.{Budget}
use Rattle.journal_store.specs.declared.allowance.Allowance.{Allowance}
use Rattle.journal_store.specs.declared.store.KeptRow.{KeptRow}
use Rattle.journal_store.specs.Budgets.{allowances, left_from, entries_left, bytes_left}
use Rattle.journal_store.specs.Store.{Stored, charge_of}

-- a row with its bytes
abbrev pub stored_of : {R : Type 0} → List ℕ → KeptRow R → Stored R
stored_of bytes kept =
    record {
      app = kept.app;
      row = kept.row;
      text = slice_range bytes kept.start (kept.start + kept.len);
    }

-- the rows with their bytes
abbrev pub stored_in : {R : Type 0} → List ℕ → List (KeptRow R) → List (Stored R)
stored_in bytes rows = map (stored_of bytes) rows

-- a row's bytes are there
abbrev pub IsThere : {R : Type 0} → ℕ → KeptRow R → Type 0
IsThere bytes kept = kept.start + kept.len ≤ bytes

-- each row's bytes are there, what is left is what the rows leave of the budgets, and all of it has
-- room
pub record IsKept {R : Type 0} (rows : List (KeptRow R)) (bytes : List ℕ) (row_room byte_room : ℕ)
    (budgets : List Budget) (left : List Allowance) : Type 0 where
  pub there : All (IsThere (length bytes)) rows
  pub remains : left ≡ left_from (allowances budgets) (map charge_of (stored_in bytes rows))
  pub rows_fit : length rows + entries_left left ≤ row_room
  pub bytes_fit : length bytes + bytes_left left ≤ byte_room
  pub rows_few : length rows + entries_left left < 2 ^ 32
  pub bytes_few : length bytes + bytes_left left < 2 ^ 32
  pub few : length budgets ≤ 16
  pub apps : length left ≡ length budgets
