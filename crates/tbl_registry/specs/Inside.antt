-- If the registry keeps its tables: each in a place of its own, whose number is its key, and
-- which says where in a slab the table lies.
use Rattle.std.specs.Prelude.{◌≡◌, ℕ, ◌<◌, ◌≤◌, true, List, [], ◌∷◌, ◌++◌, map, length, count_by, slice_index_or, All, Option, Some, None, is_some}
use Rattle.std.specs.List.{AllPairs}
use Rattle.std.specs.Option.{option_and_then, option_to_list}
use Rattle.slab.specs.Slab.{Slab, get, slab_len}
use Rattle.tbl_registry.specs.declared.rows.Handle.{Handle}
use Rattle.tbl_registry.specs.Listing.{Table, Listing, IsTied}

-- the table of a place, by the slab's key that the place has
abbrev pub lies_at : Slab Table → Option ℕ → Option Table
lies_at slab at = option_and_then (get slab) at

-- the tables by place
abbrev pub shelf_of : Slab Table → List (Option ℕ) → List (Option Table)
shelf_of slab at = map (lies_at slab) at

-- each place that has a slab's key has a table there; no two places have the same one, and the slab
-- has no others and room for all
pub record IsShelf (slab : Slab Table) (at : List (Option ℕ)) : Type 0 where
  pub there : (i k : ℕ) → slice_index_or at i None ≡ Some k → is_some (get slab k) ≡ true
  pub apart : (i j k : ℕ) → slice_index_or at i None ≡ Some k → slice_index_or at j None ≡ Some k →
      i ≡ j
  pub counted : slab_len slab ≡ count_by is_some at
  pub room : length at ≤ slab.capacity

-- the table in a place
abbrev pub table_in : List (Option Table) → ℕ → Option Table
table_in shelf key = slice_index_or shelf key None

-- the tables in these places
abbrev pub tables_in : List (Option Table) → List ℕ → List Table
tables_in shelf [] = []
tables_in shelf (key ∷ keys) = option_to_list (table_in shelf key) ++ tables_in shelf keys

-- a place has a table, which knows it
pub record IsFiled (shelf : List (Option Table)) (key : ℕ) : Type 0 where
  pub t : Table
  pub there : table_in shelf key ≡ Some t
  pub known : t.key ≡ key

-- what the registry stands for
abbrev pub listing_of : List (Option Table) → List ℕ → List Handle → ℕ → ℕ → Listing
listing_of shelf keys handles made room = record {
  tables = tables_in shelf keys;
  handles = handles;
  made = made;
  table_room = length shelf;
  handle_room = room;
}

-- each place among these has a table, as many as there are places with one; and what the registry
-- stands for is tied
pub record IsKept (shelf : List (Option Table)) (keys : List ℕ) (handles : List Handle)
    (made room : ℕ) : Type 0 where
  pub filed : All (IsFiled shelf) keys
  pub counted : length keys ≡ count_by is_some shelf
  pub tied : IsTied (listing_of shelf keys handles made room)

-- the handle at a place has the number
abbrev pub HasNumber : List Handle → ℕ → ℕ → Type 0
HasNumber handles number i =
    (i < length handles) × ((d : Handle) → (slice_index_or handles i d).number ≡ number)

-- the numbers rise
abbrev pub AreRising : List Handle → Type 0
AreRising handles = AllPairs (λ earlier later. earlier.number < later.number) handles
