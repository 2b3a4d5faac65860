-- Who may use a handle, and what bars a load, by what is kept.
use Rattle.std.specs.Prelude.{ℕ, ◌+◌, ◌==◌, ◌&&◌, not, nat_lt, Bool, false, List, length, Result, Ok, Err, Option, Some, None, is_some}
use Rattle.std.specs.Option.{option_map_or}
use Rattle.tbl_words.specs.declared.statuses.TblStatus.{TblStatus}
use Rattle.tbl_words.specs.declared.statuses.TblStatus.TheVariants.{ErrInvalidHandle}
use Rattle.tbl_words.specs.Machine.{handle_cause, unregistered_cause, Bars}
use Rattle.tbl_registry.specs.declared.rows.Handle.{Handle}
use Rattle.tbl_registry.specs.Listing.{handle_at}
use Rattle.table_blocks.specs.Contents.{Content, is_double, is_staged, older_in}

-- what was found, if nothing refuses it
abbrev pub unless : Option TblStatus → Option Handle → Result Handle TblStatus
unless (Some status) found = Err status
unless None found = option_map_or Ok found (Err ErrInvalidHandle)

-- the live handle of a number, if it is the application's
abbrev pub own_handle : ℕ → Option Handle → Result Handle TblStatus
own_handle app found =
    unless
    (handle_cause (is_some found) (option_map_or (λ h. h.app == app) found false) None) found

-- the handle, if the one that its table's registration gave is live
abbrev pub registered_one : List Handle → Result Handle TblStatus → Result Handle TblStatus
registered_one handles (Ok h) =
    unless (unregistered_cause (is_some (handle_at handles h.table)) None) (Some h)
registered_one handles (Err status) = Err status

-- the live handle of a number, if it is the application's and its table is registered
abbrev pub own_table : ℕ → ℕ → List Handle → Result Handle TblStatus
own_table app number handles = registered_one handles (own_handle app (handle_at handles number))

-- the bytes aren't all of the table, of which none were ever loaded
abbrev pub is_partial : Content → ℕ → List ℕ → Bool
is_partial c offset bytes = c.version == 0 && not (offset == 0 && length bytes == c.size)

-- a view is out of the version that lies if a double-buffered table stages
abbrev pub is_lent_apart : Content → Bool
is_lent_apart c = is_double c && nat_lt 0 (older_in c.next).views

-- a view is out of the one block that a single-buffered table has
abbrev pub is_lent : Content → Bool
is_lent c = not (is_double c) && nat_lt 0 c.present.views

-- a single-buffered table stages in a working buffer, and none is free
abbrev pub lacks_buffer : ℕ → Content → Bool
lacks_buffer free c = not (is_double c) && free == 0

-- what bars a load of these bytes from an offset on, by what is kept for the table and how many
-- working buffers are free
abbrev pub bars_in : ℕ → Content → ℕ → List ℕ → Bars
bars_in free c offset bytes = record {
  dump_only = c.option == 2;
  past_end = nat_lt c.size (offset + length bytes);
  partial = is_partial c offset bytes;
  in_progress = is_staged c.next;
  held_apart = is_lent_apart c;
  no_buffer = lacks_buffer free c;
}
