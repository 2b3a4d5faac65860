-- What an application reaches by a handle.
use Rattle.std.specs.Prelude.{◌≡◌, ℕ, Option, Some, None}
use Rattle.tbl_words.specs.declared.statuses.TblStatus.{TblStatus}
use Rattle.tbl_words.specs.Tables.{Table, State, table_of}
use Rattle.tbl_words.specs.Machine.{table_cause}
use Rattle.list_tables.specs.declared.access.Access.{Access}
use Rattle.list_tables.specs.declared.access.Access.TheVariants.{Refused, Reached, Nowhere}

-- The table that is reached is the handle's, and it alone decides from there on. A refusal comes
-- whatever the table says. Nothing decides if there is no table.
abbrev pub IsAccess : State → ℕ → ℕ → Access → Type 0
IsAccess s app handle (Refused why) =
    (others : Table → Option TblStatus) → table_cause s app handle others ≡ Some why
IsAccess s app handle (Reached table) =
    (table_of s handle ≡ Some table.now)
    × ((others : Table → Option TblStatus) → table_cause s app handle others ≡ others table.now)
IsAccess s app handle Nowhere =
    (table_of s handle ≡ None)
    × ((others : Table → Option TblStatus) → table_cause s app handle others ≡ None)
