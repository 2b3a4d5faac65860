-- What ties handles to tables after every history, and how handles are numbered.
use Rattle.std.specs.Prelude.{◌≡◌, ℕ, ◌+◌, ◌<◌, ◌≤◌, All, true, List, Some, is_some}
use Rattle.std.specs.List.{AllPairs}
use Rattle.fsw_base.specs.Limits.{Limits}
use Rattle.tbl_words.specs.declared.calls.TblAnswer.TheVariants.{Number}
use Rattle.tbl_words.specs.declared.history.Call.{Call}
use Rattle.tbl_words.specs.declared.history.Entry.{Entry}
use Rattle.tbl_words.specs.Tables.{Table, Handle, State, handle_at, is_live, has_handle, table_at}
use Rattle.tbl_words.specs.Machine.{step, state_after}

-- the table of a live handle is there
abbrev pub HandlesHaveTables : Type 0
HandlesHaveTables =
    (limits : Limits) (apps : ℕ) (history : List Entry) (number : ℕ) (h : Handle) →
    handle_at (state_after limits apps history).handles number ≡ Some h →
    is_some (table_at (state_after limits apps history).tables h.table) ≡ true

-- a table is registered if and only if its owner's handle is live
abbrev pub OwnersRegister : Type 0
OwnersRegister =
    (limits : Limits) (apps : ℕ) (history : List Entry) (number : ℕ) (t : Table) →
    table_at (state_after limits apps history).tables number ≡ Some t →
    t.registered ≡ is_live (state_after limits apps history).handles t.number

-- each table has a handle
abbrev pub TablesHaveHandles : Type 0
TablesHaveHandles =
    (limits : Limits) (apps : ℕ) (history : List Entry) →
    All (λ t. has_handle (state_after limits apps history).handles t.number ≡ true)
    (state_after limits apps history).tables

-- the live handles stand in order of number, so no two have one number
abbrev pub HandlesRise : Type 0
HandlesRise =
    (limits : Limits) (apps : ℕ) (history : List Entry) →
    AllPairs (λ earlier later. earlier.number < later.number)
    (state_after limits apps history).handles

-- and no number is above the count of the handles that were made
abbrev pub HandlesWereMade : Type 0
HandlesWereMade =
    (limits : Limits) (apps : ℕ) (history : List Entry) →
    All (λ h. h.number ≤ (state_after limits apps history).handles_made)
    (state_after limits apps history).handles

-- a number that is answered for a new handle is one more than were made before, and is counted
abbrev pub NumbersAreNew : Type 0
NumbersAreNew =
    (limits : Limits) (s : State) (app : ℕ) (call : Call) (number : ℕ) →
    (step limits s app call).0 ≡ Number number →
    (number ≡ s.handles_made + 1) × (((step limits s app call).1).handles_made ≡ number)

-- and the count never falls, so no number is given twice
abbrev pub CountsNeverFall : Type 0
CountsNeverFall =
    (limits : Limits) (s : State) (app : ℕ) (call : Call) →
    s.handles_made ≤ ((step limits s app call).1).handles_made
