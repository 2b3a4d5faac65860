-- What C reads of the tables, and the status that it gets.
use Rattle.std.specs.Prelude.{◌≡◌, ℕ, List, Option, Some, None}
use Rattle.std.specs.Option.{option_map, option_map_or, option_and_then}
use Rattle.tbl_words.specs.declared.uses.TblUse.{TblUse}
use Rattle.tbl_words.specs.declared.calls.TblState.{TblState}
use Rattle.tbl_words.specs.declared.history.Call.{Call}
use Rattle.tbl_words.specs.Tables.{State, table_of}
use Rattle.tbl_words.specs.Machine.{cause}
use Rattle.tbl_words.specs.Uses.{use_of}
use Rattle.checked_tables.specs.Asked.{unasked}
use Rattle.fsw_core.specs.declared.Core.{Core}
use Rattle.fsw_c.specs.declared.reading.FswTableStatus.{FswTableStatus}
use Rattle.fsw_c.specs.declared.reading.FswTableUse.{FswTableUse}
use Rattle.fsw_c.specs.declared.seen.FswBytes.{FswBytes}
use Rattle.fsw_c.specs.Codes.{closed_code}
use Rattle.fsw_c.specs.TableCodes.{tbl_code, unasked_table_code}
use Rattle.fsw_c.specs.Shown.{shown_length}

-- the status of a look that is refused as this call is
abbrev pub read_code : Option Core → ℕ → Call → ℕ
read_code None app call = closed_code
read_code (Some o) app call =
    option_map_or unasked_table_code (unasked o.tables.core app call)
    (option_map_or tbl_code (cause o.tables.core.limits o.tables.core.state app call) 0)

-- the status of a look that is refused if the handle is closed, and nowhere else
abbrev pub use_code : Option Core → ℕ
use_code None = closed_code
use_code (Some o) = 0

-- the figures of a table, as the tables have them
abbrev pub state_in : FswTableStatus → TblState
state_in shown = record {
  version = shown.version;
  loaded = shown.loaded;
  staged = shown.staged;
  holds = shown.holds;
}

-- the staged value of a handle's table, if it has one
abbrev pub staged_value : State → ℕ → Option (List ℕ)
staged_value s handle =
    option_and_then (λ t. option_map (λ staged. staged.value) t.staged) (table_of s handle)

-- the bytes are as many as the staged value's
abbrev pub ShowsStaged : Option Core → ℕ → FswBytes → Type 0
ShowsStaged old handle bytes =
    (o : Core) → old ≡ Some o →
    bytes.len ≡ shown_length (staged_value o.tables.core.state handle)

-- the figures are those of what is in use
abbrev pub IsUse : FswTableUse → TblUse → Type 0
IsUse shown is =
    (shown.tables ≡ is.tables) × (shown.handles ≡ is.handles) × (shown.bytes ≡ is.bytes)

abbrev pub ShowsUse : Option Core → FswTableUse → Type 0
ShowsUse old shown =
    (o : Core) → old ≡ Some o →
    IsUse shown (use_of o.tables.core.limits o.tables.core.state)
