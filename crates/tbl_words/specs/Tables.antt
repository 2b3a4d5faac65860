-- The state of Table Services: tables, the handles by which applications reach them, and what the
-- memory pool of the tables has given. A value is a list of bytes, and whoever holds one has a
-- copy: nothing here is shared, and no buffer has a place.
use Rattle.std.specs.Prelude.{ℕ, ◌-◌, ◌*◌, ◌==◌, ◌&&◌, not, Bool, true, false, List, [], length, map, find, count_by, sum_by, replicate, slice_index, slice_index_or, Option, Some, None, is_some, if◌then◌else◌}
use Rattle.std.specs.List.{list_any}
use Rattle.std.specs.Option.{option_map_or, option_and_then}
use Rattle.std.specs.Str.{bytes_eq}
use Rattle.fsw_base.specs.Blocks.{class_of}
use Rattle.fsw_base.specs.Limits.{Limits}
use Rattle.fsw_base.specs.PoolAccounts.{Account, has_room_for}
use Rattle.tbl_rules.specs.declared.rules.Rule.{Rule}

-- A value that was loaded and isn't the table's yet, and whether it passed validation.
pub record Staged : Type 0 where
  pub value : List ℕ
  pub validated : Bool

-- A table. Its number is that of the handle which its registration gave, the owner's; no other
-- handle ever gets it. As long as that handle is live the table is registered and no other can have
-- its name; it stays as long as any handle of it is live.
pub record Table : Type 0 where
  pub number : ℕ
  pub name : List ℕ
  pub owner : ℕ
  pub registered : Bool
  -- its bytes
  pub size : ℕ
  -- 0 single buffered, 1 double buffered, 2 single buffered and dump only
  pub option : ℕ
  pub rules : List Rule
  -- how often it was updated
  pub version : ℕ
  pub value : List ℕ
  -- whether it was ever updated
  pub loaded : Bool
  pub staged : Option Staged

-- A version of a table that an application holds: a copy.
pub record Hold : Type 0 where
  pub version : ℕ
  pub value : List ℕ

-- A handle: its number, its application, the number of its table, whether its next address is to be
-- told as updated, and the version that it holds, if any.
pub record Handle : Type 0 where
  pub number : ℕ
  pub app : ℕ
  pub table : ℕ
  pub marked : Bool
  pub hold : Option Hold

-- Table Services: the tables that have a handle and the live handles, both in order of number; how
-- many handles were made; for each application, from 1, whether it has ended; and of the memory
-- pool of the tables, by block size, the greatest number of blocks that were ever out at once, and
-- how many were drawn, a count that stops at 4294967295.
pub record State : Type 0 where
  pub tables : List Table
  pub handles : List Handle
  pub handles_made : ℕ
  pub ended : List Bool
  pub made : List ℕ
  pub drawn : ℕ

-- before the first call of so many applications
abbrev pub opening : Limits → ℕ → State
opening limits apps = record {
  tables = [];
  handles = [];
  handles_made = 0;
  ended = replicate apps false;
  made = replicate (length limits.sizes) 0;
  drawn = 0;
}

-- whether an application has ended; one that isn't known counts as ended
abbrev pub has_ended : State → ℕ → Bool
has_ended s app = if app == 0 then true else slice_index_or s.ended (app - 1) true

-- Handles. --

-- the live handle of this number
abbrev pub handle_at : List Handle → ℕ → Option Handle
handle_at handles number = find (λ h. h.number == number) handles

-- whether a handle of this number is live
abbrev pub is_live : List Handle → ℕ → Bool
is_live handles number = list_any (λ h. h.number == number) handles

-- whether a handle of this number is live and this application's
abbrev pub owns : List Handle → ℕ → ℕ → Bool
owns handles app number = list_any (λ h. h.number == number && h.app == app) handles

-- whether a live handle is of the table of this number
abbrev pub has_handle : List Handle → ℕ → Bool
has_handle handles table = list_any (λ h. h.table == table) handles

-- how many handles of the table hold a version of it
abbrev pub holds_of : List Handle → ℕ → ℕ
holds_of handles table = count_by (λ h. h.table == table && is_some h.hold) handles

-- whether a handle of the table holds a version of it
abbrev pub is_held : List Handle → ℕ → Bool
is_held handles table = list_any (λ h. h.table == table && is_some h.hold) handles

-- whether what is held is another version than this one
abbrev pub is_other : ℕ → Option Hold → Bool
is_other version None = false
is_other version (Some hold) = not (hold.version == version)

-- whether a handle of the table holds another version of it than this one
abbrev pub is_held_apart : List Handle → ℕ → ℕ → Bool
is_held_apart handles table version =
    list_any (λ h. h.table == table && is_other version h.hold) handles

-- the handles, with the one of this number changed
abbrev pub with_handle : (Handle → Handle) → ℕ → List Handle → List Handle
with_handle change number handles = map (λ h. if h.number == number then change h else h) handles

-- the handle once its next address is to be told as updated
abbrev pub with_mark : Handle → Handle
with_mark h = record h { marked = true }

-- the handles, with all those of a table to be told of its update
abbrev pub all_marked : ℕ → List Handle → List Handle
all_marked table handles = map (λ h. if h.table == table then with_mark h else h) handles

-- Tables. --

-- the table of this number
abbrev pub table_at : List Table → ℕ → Option Table
table_at tables number = find (λ t. t.number == number) tables

-- the table of a live handle
abbrev pub table_of : State → ℕ → Option Table
table_of s number = option_and_then (λ h. table_at s.tables h.table) (handle_at s.handles number)

-- the registered table of this name
abbrev pub table_named : List Table → List ℕ → Option Table
table_named tables name = find (λ t. t.registered && bytes_eq t.name name) tables

-- the tables, with the one of this number changed
abbrev pub with_table : (Table → Table) → ℕ → List Table → List Table
with_table change number tables = map (λ t. if t.number == number then change t else t) tables

-- whether a table is double buffered
abbrev pub is_double : Table → Bool
is_double t = t.option == 1

-- how many single-buffered tables have a staged value, for each of which one shared working buffer
-- is taken
abbrev pub buffers_taken : List Table → ℕ
buffers_taken tables = count_by (λ t. not (is_double t) && is_some t.staged) tables

-- The memory pool of the tables. --

-- how many blocks a table with this option takes: two if it is double buffered, else one
abbrev pub blocks_for : ℕ → ℕ
blocks_for option = if option == 1 then 2 else 1

-- the block size that a table of this size takes: the smallest that is large enough; 0 if there
-- is none
abbrev pub block_size : List ℕ → ℕ → ℕ
block_size sizes size = option_map_or (slice_index sizes) (class_of size sizes) 0

-- how many blocks of this size the tables have
abbrev pub blocks_out : List ℕ → List Table → ℕ → ℕ
blocks_out sizes tables block =
    sum_by (λ t. if block_size sizes t.size == block then blocks_for t.option else 0) tables

-- the bytes in use: the sum of the sizes of the blocks that the tables have
abbrev pub bytes_in_use : List ℕ → List Table → ℕ
bytes_in_use sizes tables = sum_by (λ t. block_size sizes t.size * blocks_for t.option) tables

-- the pool's account: blocks are out for the tables alone, and no return is ever refused
abbrev pub account_of : Limits → State → Account
account_of limits s = record {
  bytes = limits.tablepool;
  sizes = limits.sizes;
  made = s.made;
  out = map (blocks_out limits.sizes s.tables) limits.sizes;
  requests = s.drawn;
  errors = 0;
}

-- whether the pool can give so many blocks for a size: some block size is large enough, and so many
-- more of the smallest such fit
abbrev pub fits : Account → ℕ → ℕ → Bool
fits account size count =
    option_map_or (λ class. has_room_for account class count) (class_of size account.sizes) false
