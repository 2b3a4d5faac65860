-- The registry as its callers see it: which tables there are, and the live handles by which
-- applications reach them (cFE Table Services, table registry).
use Rattle.std.specs.Prelude.{◌≡◌, ℕ, ◌+◌, ◌<◌, ◌≤◌, ◌==◌, ◌&&◌, not, Bool, List, [], ◌∷◌, ◌++◌, length, map, filter, find, All, Option, Some, None, if◌then◌else◌}
use Rattle.std.specs.List.{list_any, AllPairs}
use Rattle.std.specs.Option.{option_map, option_map_or}
use Rattle.std.specs.Str.{bytes_eq}
use Rattle.tbl_rules.specs.declared.rules.Rule.{Rule}
use Rattle.tbl_registry.specs.declared.rows.Handle.{Handle}
use Rattle.tbl_registry.specs.declared.rows.HandleRow.{HandleRow}
use Rattle.tbl_registry.specs.declared.rows.TableRow.{TableRow}

-- A table: its number, which is that of the handle that its registration gave, the owner's; its
-- key, which is the registry's own place for it; and what it was registered with.
pub record Table : Type 0 where
  pub number : ℕ
  pub key : ℕ
  pub name : List ℕ
  pub owner : ℕ
  pub size : ℕ
  pub option : ℕ
  pub rules : List Rule

-- The tables and the live handles, both in order of number; how many handles were made; and how
-- many of both there may be.
pub record Listing : Type 0 where
  pub tables : List Table
  pub handles : List Handle
  pub made : ℕ
  pub table_room : ℕ
  pub handle_room : ℕ

-- Handles. --

-- the live handle of this number
abbrev pub handle_at : List Handle → ℕ → Option Handle
handle_at handles number = find (λ h. h.number == number) handles

-- whether a handle of this number is live
abbrev pub is_live : List Handle → ℕ → Bool
is_live handles number = list_any (λ h. h.number == number) handles

-- whether a live handle is of the table of this number
abbrev pub has_handle : List Handle → ℕ → Bool
has_handle handles table = list_any (λ h. h.table == table) handles

-- the number of the table of a live handle
abbrev pub table_under : List Handle → ℕ → ℕ
table_under handles number = option_map_or (λ h. h.table) (handle_at handles number) 0

-- the first live handle of the application
abbrev pub first_owned : List Handle → ℕ → Option Handle
first_owned handles app = find (λ h. h.app == app) handles

-- the handles, with the one of this number changed
abbrev pub with_handle : (Handle → Handle) → ℕ → List Handle → List Handle
with_handle change number handles = map (λ h. if h.number == number then change h else h) handles

-- the handles but the one of this number
abbrev pub without_handle : ℕ → List Handle → List Handle
without_handle number handles = filter (λ h. not (h.number == number)) handles

-- a handle that was never told of a version and holds none
abbrev pub made_handle : ℕ → ℕ → ℕ → ℕ → Handle
made_handle number app table key =
    record { number = number; app = app; table = table; key = key; told = 0; held = None }

-- the handle once its application knows of a version and holds it
abbrev pub with_hold : ℕ → Handle → Handle
with_hold version h = record h { told = version; held = Some version }

-- the handle once it holds nothing
abbrev pub without_hold : Handle → Handle
without_hold h = record h { held = None }

-- what is kept under a handle's number: the key of its table, its application, and whether it is
-- the one of its table's registration
abbrev pub handle_row : Handle → HandleRow
handle_row h = record { key = h.key; app = h.app; owner = h.number == h.table }

-- Tables. --

-- the table with this key
abbrev pub table_at : List Table → ℕ → Option Table
table_at tables key = find (λ t. t.key == key) tables

-- the number of the table with this key
abbrev pub number_at : List Table → ℕ → Option ℕ
number_at tables key = option_map (λ t. t.number) (table_at tables key)

-- whether a table is registered: as long as its owner's handle is live
abbrev pub is_registered : List Handle → Table → Bool
is_registered handles t = is_live handles t.number

-- the registered table of this name
abbrev pub table_named : Listing → List ℕ → Option Table
table_named l name = find (λ t. is_registered l.handles t && bytes_eq t.name name) l.tables

-- the owner's handle of a table, as long as it is registered
abbrev pub owner_handle : List Handle → Table → Option ℕ
owner_handle handles t = if is_registered handles t then Some t.number else None

-- the tables but the one with this key
abbrev pub without_table : ℕ → List Table → List Table
without_table key tables = filter (λ t. not (t.key == key)) tables

-- What is kept of a table under its key.
pub record Tells (l : Listing) (key : ℕ) (row : TableRow) : Type 0 where
  pub t : Table
  pub there : table_at l.tables key ≡ Some t
  pub app : row.app ≡ t.owner
  pub handle : row.handle ≡ owner_handle l.handles t
  pub size : row.size ≡ t.size
  pub option : row.option ≡ t.option
  pub rules : row.rules.now ≡ t.rules

-- Changes. --

-- one handle more of the table of this number and key
abbrev pub with_new_handle : Listing → ℕ → ℕ → ℕ → Listing
with_new_handle l app table key = record l {
  handles = l.handles ++ made_handle (l.made + 1) app table key ∷ [];
  made = l.made + 1;
}

-- one table more, with its owner's handle: its key is one that no table has
pub record AddsTable (old new : Listing) (app : ℕ) (name : List ℕ) (size option : ℕ)
    (rules : List Rule) : Type 0 where
  pub key : ℕ
  pub within : key < old.table_room
  pub free : table_at old.tables key ≡ None
  pub tables : new.tables ≡ old.tables ++
      record {
        number = old.made + 1;
        key = key;
        name = name;
        owner = app;
        size = size;
        option = option;
        rules = rules;
      } ∷ []
  pub others : record new { tables = old.tables } ≡ with_new_handle old app (old.made + 1) key

-- one handle more of the table with this key
pub record AddsHandle (old new : Listing) (app key : ℕ) : Type 0 where
  pub table : ℕ
  pub of : number_at old.tables key ≡ Some table
  pub is : new ≡ with_new_handle old app table key

-- What is always so: numbers rise, and none is above the count of the handles made; keys are below
-- the room, and no two tables have one; the table of a handle is there under the handle's key; and
-- there are no more of both than there may be.
pub record IsTied (l : Listing) : Type 0 where
  pub tables_rise : AllPairs (λ earlier later. earlier.number < later.number) l.tables
  pub handles_rise : AllPairs (λ earlier later. earlier.number < later.number) l.handles
  pub tables_made : All (λ t. t.number ≤ l.made) l.tables
  pub handles_made : All (λ h. h.number ≤ l.made) l.handles
  pub tables_there : All (λ h. number_at l.tables h.key ≡ Some h.table) l.handles
  pub keys : All (λ t. t.key < l.table_room) l.tables
  pub keys_apart : AllPairs (λ earlier later. earlier.key ≡ later.key → ⊥) l.tables
  pub tables_few : length l.tables ≤ l.table_room
  pub handles_few : length l.handles ≤ l.handle_room
