-- What a registry says of the state of Table Services: the same tables and handles, but for what
-- tables contain and handles hold.
use Rattle.std.specs.Prelude.{◌≡◌, ℕ, ◌==◌, Bool, true, false, List, length, map, filter, All, if◌then◌else◌}
use Rattle.std.specs.Option.{option_map, option_map_or, option_and_then}
use Rattle.fsw_base.specs.Limits.{Limits}
use Rattle.tbl_rules.specs.declared.rules.Rule.{Rule}
use Rattle.tbl_words.specs.Tables as state
use Rattle.tbl_words.specs.Machine as machine
use Rattle.tbl_registry.specs.declared.rows.Handle.{Handle}
use Rattle.tbl_registry.specs.Listing.{Table, Listing, IsTied, handle_at, is_live, has_handle, is_registered, table_at, table_named, with_new_handle, without_handle, without_table, table_under, AddsTable}

-- what both know of a table
pub record TableFacts : Type 0 where
  pub number : ℕ
  pub name : List ℕ
  pub owner : ℕ
  pub registered : Bool
  pub size : ℕ
  pub option : ℕ
  pub rules : List Rule

-- what the state says of it
abbrev pub facts_of : state.Table → TableFacts
facts_of t =
    record {
      number = t.number;
      name = t.name;
      owner = t.owner;
      registered = t.registered;
      size = t.size;
      option = t.option;
      rules = t.rules;
    }

-- what the registry says of it
abbrev pub facts_in : List Handle → Table → TableFacts
facts_in handles t =
    record {
      number = t.number;
      name = t.name;
      owner = t.owner;
      registered = is_registered handles t;
      size = t.size;
      option = t.option;
      rules = t.rules;
    }

-- what both know of a handle
pub record HandleFacts : Type 0 where
  pub number : ℕ
  pub app : ℕ
  pub table : ℕ

abbrev pub handle_facts_of : state.Handle → HandleFacts
handle_facts_of h = record { number = h.number; app = h.app; table = h.table }

abbrev pub handle_facts_in : Handle → HandleFacts
handle_facts_in h = record { number = h.number; app = h.app; table = h.table }

-- the registry lists the state's tables and handles
pub record IsListed (s : state.State) (l : Listing) : Type 0 where
  pub tables : map facts_of s.tables ≡ map (facts_in l.handles) l.tables
  pub handles : map handle_facts_of s.handles ≡ map handle_facts_in l.handles
  pub made : s.handles_made ≡ l.made

-- what is looked up in the state is what the registry finds
pub record FindsAlike (s : state.State) (l : Listing) : Type 0 where
  pub tables_many : length s.tables ≡ length l.tables
  pub handles_many : length s.handles ≡ length l.handles
  pub live : (number : ℕ) → state.is_live s.handles number ≡ is_live l.handles number
  pub owned : (app number : ℕ) →
      state.owns s.handles app number ≡
      option_map_or (λ h. h.app == app) (handle_at l.handles number) false
  pub shared : (table : ℕ) → state.has_handle s.handles table ≡ has_handle l.handles table
  pub tabled : (number : ℕ) →
      option_map facts_of (state.table_of s number) ≡
      option_and_then (λ h. option_map (facts_in l.handles) (table_at l.tables h.key))
      (handle_at l.handles number)
  pub named : (name : List ℕ) →
      option_map facts_of (state.table_named s.tables name) ≡
      option_map (facts_in l.handles) (table_named l name)

-- whatever the state, if the registry lists it
abbrev pub ListedFindAlike : Type 0
ListedFindAlike = (s : state.State) (l : Listing) → IsTied l → IsListed s l → FindsAlike s l

-- a handle more of a table is listed as the registry adds it
abbrev pub NewHandlesAreListed : Type 0
NewHandlesAreListed =
    (s : state.State) (l : Listing) (app table key : ℕ) (marked : Bool) →
    IsTied l → IsListed s l →
    IsListed (machine.with_new_handle s app table marked) (with_new_handle l app table key)

-- so is a new table, with its owner's handle
abbrev pub NewTablesAreListed : Type 0
NewTablesAreListed =
    (limits : Limits) (s : state.State) (old new : Listing) (app : ℕ) (name : List ℕ)
    (size option : ℕ) (rules : List Rule) →
    IsTied old → IsListed s old → AddsTable old new app name size option rules →
    IsListed (machine.with_new_table limits s app name size option rules) new

-- a handle leaves, and if it was its table's last one the table leaves too
abbrev pub without_handle_of : Listing → ℕ → Listing
without_handle_of l number =
    let left = without_handle number l.handles in
    record l { handles = left; tables = filter (λ t. has_handle left t.number) l.tables }

-- what the state has once a handle left is listed so
abbrev pub LeavesAreListed : Type 0
LeavesAreListed =
    (s : state.State) (l : Listing) (number : ℕ) →
    IsListed s l →
    IsListed (machine.without_handles (λ h. h.number == number) s) (without_handle_of l number)

-- each table has a handle
abbrev pub AllHaveHandles : Listing → Type 0
AllHaveHandles l = All (λ t. has_handle l.handles t.number ≡ true) l.tables

-- the key of a live handle's table
abbrev pub key_under : List Handle → ℕ → ℕ
key_under handles number = option_map_or (λ h. h.key) (handle_at handles number) 0

-- so it is listed once the handle was dropped, and if it was its table's last one the table was
-- removed by its key
abbrev pub DropsAreLeaves : Type 0
DropsAreLeaves =
    (l : Listing) (number : ℕ) →
    IsTied l → AllHaveHandles l → is_live l.handles number ≡ true →
    without_handle_of l number
    ≡ record l {
      handles = without_handle number l.handles;
      tables =
          if has_handle (without_handle number l.handles) (table_under l.handles number)
          then l.tables
          else without_table (key_under l.handles number) l.tables;
    }

-- each table goes on to have a handle: with a handle more, with a table more, and once a handle
-- left
pub record HandlesGoOn : Type 0 where
  pub added : (l : Listing) (app table key : ℕ) → AllHaveHandles l →
      AllHaveHandles (with_new_handle l app table key)
  pub opened : (old new : Listing) (app : ℕ) (name : List ℕ) (size option : ℕ) (rules : List Rule) →
      AddsTable old new app name size option rules → AllHaveHandles old → AllHaveHandles new
  pub left : (l : Listing) (number : ℕ) → AllHaveHandles (without_handle_of l number)
