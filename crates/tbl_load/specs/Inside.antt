-- What contracts see of the core's fields, and what is always true of them.
use Rattle.std.specs.Prelude.{◌≡◌, ℕ, ◌+◌, ◌^◌, ◌<◌, true, length, is_some}
use Rattle.journal_store.specs.Budgets.{entries_left}
use Rattle.tbl_words.specs.Log.{left_of}
use Rattle.tbl_words.specs.Holds.{hold_of}
use Rattle.tbl_words.specs.Machine.{state_after}
use Rattle.tbl_words.specs.Uses.{peak_after}
use Rattle.table_core.specs.Core.{loan_of}
use Rattle.tbl_load.specs.declared.tables.TblCore.TheInside.{Inside}
use Rattle.tbl_load.specs.Core.{Core, IsLegalCore}
use Rattle.tbl_load.specs.Notes.{noted}

-- the core as its callers see it
abbrev pub core_of : Inside → Core
core_of a = record { limits = a.core.limits; log = a.noted.log; notes = a.noted.notes }

-- What is always true of a core: its history is one that the tables can have, its state is the one
-- that the history leaves, what a handle holds is lent by the loan that was noted of it, the peak
-- is the history's, and a number is left for every entry that may come.
pub record Stands (a : Inside) : Type 0 where
  pub legal : IsLegalCore (core_of a)
  pub state : a.core.state ≡
      state_after a.core.limits (length a.noted.log.budgets) a.noted.log.entries
  pub loans : (number : ℕ) → is_some (hold_of a.core.state.handles number) ≡ true →
      loan_of a.core.lent number ≡ noted number a.noted.log.entries a.noted.notes
  pub peak : a.noted.peak ≡
      peak_after a.core.limits (length a.noted.log.budgets) a.noted.log.entries
  pub few : length a.noted.log.entries + entries_left (left_of a.noted.log) < 2 ^ 32
