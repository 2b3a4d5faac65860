-- How far numbers go: no further than there are entries.
use Rattle.std.specs.Prelude.{◌≡◌, ℕ, ◌≤◌, List, length, Some}
use Rattle.fsw_base.specs.Limits.{Limits}
use Rattle.tbl_words.specs.declared.history.Entry.{Entry}
use Rattle.tbl_words.specs.Tables.{Table, table_at}
use Rattle.tbl_words.specs.Machine.{state_after}

-- no more handles were made than there are entries
abbrev pub HandlesGoByEntries : Type 0
HandlesGoByEntries =
    (limits : Limits) (apps : ℕ) (history : List Entry) →
    (state_after limits apps history).handles_made ≤ length history

-- and no table has had more versions
abbrev pub VersionsGoByEntries : Type 0
VersionsGoByEntries =
    (limits : Limits) (apps : ℕ) (history : List Entry) (number : ℕ) (t : Table) →
    table_at (state_after limits apps history).tables number ≡ Some t →
    t.version ≤ length history
