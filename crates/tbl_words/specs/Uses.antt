-- How much of Table Services is in use, now and at the most so far.
use Rattle.std.specs.Prelude.{◌≡◌, ℕ, ◌≤◌, max, List, [], ◌∷◌, ◌++◌, length}
use Rattle.fsw_base.specs.Limits.{Limits}
use Rattle.tbl_words.specs.declared.uses.TblUse.{TblUse}
use Rattle.tbl_words.specs.declared.history.Entry.{Entry}
use Rattle.tbl_words.specs.Tables.{State, opening, bytes_in_use}
use Rattle.tbl_words.specs.Machine.{step, state_after}

-- what is in use: the tables that have a handle, the live handles, and the bytes of the tables'
-- blocks
abbrev pub use_of : Limits → State → TblUse
use_of limits s =
    record {
      tables = length s.tables;
      handles = length s.handles;
      bytes = bytes_in_use limits.sizes s.tables;
    }

-- of each number the greater one
abbrev pub greater_of : TblUse → TblUse → TblUse
greater_of one other = record {
  tables = max one.tables other.tables;
  handles = max one.handles other.handles;
  bytes = max one.bytes other.bytes;
}

-- no number is greater than the other's
pub record IsWithin (one other : TblUse) : Type 0 where
  pub tables : one.tables ≤ other.tables
  pub handles : one.handles ≤ other.handles
  pub bytes : one.bytes ≤ other.bytes

-- the greatest numbers that were in use after these entries' calls
abbrev pub peak_from : Limits → TblUse → State → List Entry → TblUse
peak_from limits peak s [] = peak
peak_from limits peak s (e ∷ es) =
    let next = (step limits s e.app e.call).1 in
    peak_from limits (greater_of peak (use_of limits next)) next es

-- the greatest numbers that were in use after any beginning of a history of so many applications
abbrev pub peak_after : Limits → ℕ → List Entry → TblUse
peak_after limits apps history =
    peak_from limits (use_of limits (opening limits apps)) (opening limits apps) history

-- one entry more: the peak is the greater of the one before and what is in use now
abbrev pub PeaksGoOn : Type 0
PeaksGoOn =
    (limits : Limits) (apps : ℕ) (history : List Entry) (e : Entry) →
    peak_after limits apps (history ++ e ∷ [])
    ≡ greater_of (peak_after limits apps history)
    (use_of limits (state_after limits apps (history ++ e ∷ [])))

-- what was in use after a beginning of a history is within its peak
abbrev pub PeaksAreGreatest : Type 0
PeaksAreGreatest =
    (limits : Limits) (apps : ℕ) (history more : List Entry) →
    IsWithin (use_of limits (state_after limits apps history))
    (peak_after limits apps (history ++ more))
