-- What an application was given stays as it was, whatever comes between: said of whole histories.
use Rattle.std.specs.Prelude.{◌≡◌, ◌⊎◌, ℕ, ◌+◌, ◌==◌, ◌&&◌, Bool, true, false, All, List, ◌∷◌, ◌++◌, Some, None}
use Rattle.std.specs.Option.{option_map}
use Rattle.fsw_base.specs.Limits.{Limits}
use Rattle.bus_words.specs.declared.history.Call.{Call}
use Rattle.bus_words.specs.declared.history.Call.TheVariants as calls
use Rattle.bus_words.specs.declared.history.Entry.{Entry}
use Rattle.bus_words.specs.Alone.{Gives, Received, gets_from, received_of}
use Rattle.bus_words.specs.Machine.{state_after}
use Rattle.tbl_words.specs.declared.calls.TblAnswer.{TblAnswer}
use Rattle.tbl_words.specs.declared.calls.TblAnswer.TheVariants.{Address}
use Rattle.tbl_words.specs.declared.calls.Told.{Told}
use Rattle.tbl_words.specs.declared.history.Call.{Call as TableCall}
use Rattle.tbl_words.specs.declared.history.Call.TheVariants as table_calls
use Rattle.tbl_words.specs.declared.history.Entry.{Entry as TableEntry}
use Rattle.tbl_words.specs.Machine.{state_after as tables_after}
use Rattle.tbl_words.specs.Tables.{Hold, Table, is_double, table_of}
use Rattle.script_runs.specs.Told.{own_hold, own_last}

-- The bus. --

-- whether a call lets go of what its pipe gave last: the next receive on the pipe, be there a
-- message or not, or its deletion; and an end lets go of all
abbrev pub call_lets_go : ℕ → Call → Bool
call_lets_go pipe (calls.Receive other) = other == pipe
call_lets_go pipe (calls.Pend other) = other == pipe
call_lets_go pipe (calls.Look other) = other == pipe
call_lets_go pipe (calls.Delete other) = other == pipe
call_lets_go pipe calls.End = true
call_lets_go pipe call = false

-- whether an entry is the application's own, and lets go of what the pipe gave it last
abbrev pub lets_go : ℕ → ℕ → Entry → Bool
lets_go app pipe e = e.app == app && call_lets_go pipe e.call

-- An entry gives its application this message, the newest that the pipe alone gives; and when these
-- entries have followed, it is still the last message of that pipe, which is the application's.
pub record KeepsMessage (limits : Limits) (apps pipe : ℕ) (history : List Entry) (e : Entry)
    (between : List Entry) : Type 0 where
  pub message : Received
  pub gives : Gives limits apps pipe history e message
  pub last : option_map received_of
      (own_last (state_after limits apps (history ++ e ∷ between)).pipes e.app pipe) ≡ Some message

-- A message stays, with its number and its bytes, from the entry that gives it until its receiver
-- lets go of it, whatever comes between.
abbrev pub MessagesStay : Limits → ℕ → List Entry → Type 0
MessagesStay limits apps history =
    (front between rest : List Entry) (e : Entry) (pipe : ℕ) →
    history ≡ front ++ e ∷ (between ++ rest) →
    gets_from pipe e ≡ true →
    All (λ other. lets_go e.app pipe other ≡ false) between →
    KeepsMessage limits apps pipe front e between

-- The tables. --

-- whether a call, so answered, ends what a handle holds: the next address that it is given, its
-- release or its return; and an end ends all
abbrev pub call_ends_hold : ℕ → TableCall → TblAnswer → Bool
call_ends_hold handle (table_calls.GetAddress other) (Address told version) = other == handle
call_ends_hold handle (table_calls.ReleaseAddress other) answer = other == handle
call_ends_hold handle (table_calls.Unregister other) answer = other == handle
call_ends_hold handle table_calls.End answer = true
call_ends_hold handle call answer = false

-- whether an entry is the application's own, and ends what its handle holds
abbrev pub ends_hold : ℕ → ℕ → TableEntry → Bool
ends_hold app handle e = e.app == app && call_ends_hold handle e.call e.answer

-- A version of a table that is held isn't written over. It is the table's present value; or it is
-- the version before, which a double-buffered table has in its other buffer, and nothing is staged
-- there.
abbrev pub IsUnwritten : Hold → Table → Type 0
IsUnwritten hold table =
    ((table.version ≡ hold.version) × (table.value ≡ hold.value))
    ⊎ ((is_double table ≡ true) × (table.version ≡ hold.version + 1) × (table.staged ≡ None))

-- An entry that follows a history gave an application the address of this version by a handle; and
-- when these entries have followed, the handle still holds that version, with the value that its
-- table had before the entry, and that version isn't written over.
pub record KeepsTable (limits : Limits) (apps handle version : ℕ) (history : List TableEntry)
    (e : TableEntry) (between : List TableEntry) : Type 0 where
  pub before : Table
  pub given : table_of (tables_after limits apps history) handle ≡ Some before
  pub present : before.version ≡ version
  pub held : own_hold (tables_after limits apps (history ++ e ∷ between)) e.app handle ≡
      Some (record { version = version; value = before.value })
  pub after : Table
  pub left : table_of (tables_after limits apps (history ++ e ∷ between)) handle ≡ Some after
  pub unwritten : IsUnwritten (record { version = version; value = before.value }) after

-- A table stays, with its version and its bytes, from the address that a handle is given until the
-- handle lets go of it, whatever comes between.
abbrev pub TablesStay : Limits → ℕ → List TableEntry → Type 0
TablesStay limits apps history =
    (front between rest : List TableEntry) (e : TableEntry) (handle version : ℕ) (told : Told) →
    history ≡ front ++ e ∷ (between ++ rest) →
    e.call ≡ table_calls.GetAddress handle →
    e.answer ≡ Address told version →
    All (λ other. ends_hold e.app handle other ≡ false) between →
    KeepsTable limits apps handle version front e between
