-- What an audit in memory copied, and when it stops telling.
use Rattle.std.specs.Prelude.{ℕ, ◌-◌, ◌≡◌, ◌&&◌, nat_le, Bool, true, false, List, [], ◌∷◌, ◌++◌, length, slice_get, Option, Some, None, if◌then◌else◌}
use Rattle.fsw_base.specs.declared.config.Budget.{Budget}
use Rattle.bus_words.specs.declared.history.Entry.{Entry}
use Rattle.bus_words.specs.Entries.{call_bytes}
use Rattle.bus_words.specs.Log.{Log, left_of, with_entry}
use Rattle.tbl_words.specs.declared.history.Entry.{Entry as TableEntry}
use Rattle.tbl_words.specs.Entries.{call_bytes as table_call_bytes}
use Rattle.tbl_words.specs.Log.{Log as TableLog, left_of as table_left_of, with_entry as with_table_entry}
use Rattle.journal_store.specs.declared.allowance.Allowance.{Allowance}
use Rattle.journal_store.specs.Budgets.{allowances, allowance_of, charged}
use Rattle.script_runs.specs.Histories.{Histories}

-- Copies of the histories shown: whether they are all there, how many more runs fit, and each
-- application's budget in each history.
pub record Copies : Type 0 where
  pub told : Bool
  pub copies : List Histories
  pub room : ℕ
  pub budgets : List Budget

-- what was shown, if all of it was copied
abbrev pub shown : Copies → Option (List Histories)
shown c = if c.told then Some c.copies else None

-- before anything was shown
abbrev pub no_copies : List Budget → ℕ → Copies
no_copies budgets pairs = record { told = true; copies = []; room = pairs; budgets = budgets }

-- the application may add an entry of so many bytes
abbrev pub has_room : List Allowance → ℕ → ℕ → Bool
has_room left app bytes =
    nat_le app (length left) && nat_le 1 (allowance_of left app).entries &&
    nat_le bytes (allowance_of left app).bytes

-- each entry of the bus, after those before it, is within its application's budget
abbrev pub fits : List Allowance → List Entry → Bool
fits left [] = true
fits left (e ∷ history) =
    has_room left e.app (call_bytes e.call) && fits (charged left e.app (call_bytes e.call)) history

-- each entry of the tables, the same
abbrev pub table_fits : List Allowance → List TableEntry → Bool
table_fits left [] = true
table_fits left (e ∷ history) =
    has_room left e.app (table_call_bytes e.call) &&
    table_fits (charged left e.app (table_call_bytes e.call)) history

-- both histories are within these budgets, each by itself
unfoldable pub are_within : List Budget → Histories → Bool
are_within budgets histories =
    fits (allowances budgets) histories.bus && table_fits (allowances budgets) histories.tables

-- the bus's entry at a place was added, if it is within its application's budget
abbrev pub CopiesEntry : Log → Log → List Entry → ℕ → Bool → Type 0
CopiesEntry old new history i done =
    (e : Entry) → slice_get history i ≡ Some e →
    (done ≡ has_room (left_of old) e.app (call_bytes e.call)) ×
    (done ≡ true → new ≡ with_entry old e)

-- the tables' entry at a place, the same
abbrev pub CopiesTableEntry : TableLog → TableLog → List TableEntry → ℕ → Bool → Type 0
CopiesTableEntry old new history i done =
    (e : TableEntry) → slice_get history i ≡ Some e →
    (done ≡ has_room (table_left_of old) e.app (table_call_bytes e.call)) ×
    (done ≡ true → new ≡ with_table_entry old e)

-- histories within the budgets are copied if there is room for one more run; else nothing is shown
-- from now on
abbrev pub with_copy : Copies → Histories → Copies
with_copy c histories =
    if nat_le 1 c.room && are_within c.budgets histories
    then record c { copies = c.copies ++ histories ∷ []; room = c.room - 1 }
    else (record c { told = false; room = 0 })
