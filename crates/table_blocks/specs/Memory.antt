-- The memory of a pool: which blocks are free, and which table has each of the others.
use Rattle.std.specs.Prelude.{◌≡◌, ◌≢◌, ℕ, ◌≤◌, Bool, true, false, List, [], ◌∷◌, slice_index_or, Some}
use Rattle.fsw_base.specs.Blocks.{class_of}
use Rattle.es_pool.specs.Pool.{PoolState, DrawsFor, class_at, size_at, given_back}
use Rattle.table_blocks.specs.declared.slot.Slot.{Slot}
use Rattle.table_blocks.specs.declared.slot.Slot.TheVariants.{Free, Taken}

-- the pool, and beside each of its blocks whose it is
pub record Memory : Type 0 where
  pub pool : PoolState
  pub slots : List Slot

-- the slot of a block; one that was never cut counts as free
abbrev pub slot_at : List Slot → ℕ → Slot
slot_at slots block = slice_index_or slots block (Free [])

abbrev pub is_free : Slot → Bool
is_free (Free bytes) = true
is_free (Taken key) = false

-- the bytes of a free block
abbrev pub free_bytes : Slot → List ℕ
free_bytes (Free bytes) = bytes
free_bytes (Taken key) = []

-- A block was drawn for a table of this size: it was free and is that table's, it is one of the
-- smallest size that is large enough, and the blocks that tables had are what they were.
pub record Takes (old new : Memory) (key size block whole : ℕ) : Type 0 where
  pub drawn : DrawsFor old.pool new.pool size block
  pub was_free : is_free (slot_at old.slots block) ≡ true
  pub taken : slot_at new.slots block ≡ Taken key
  pub as_large : whole ≡ size_at new.pool block
  pub enough : size ≤ whole
  pub sizes : new.pool.sizes ≡ old.pool.sizes
  pub class : class_of size new.pool.sizes ≡ Some (class_at new.pool block)
  pub others : (other owner : ℕ) → slot_at old.slots other ≡ Taken owner →
      (slot_at new.slots other ≡ Taken owner) × (class_at new.pool other ≡ class_at old.pool other)

-- A block went back: it is free, and the other blocks that tables have are what they were.
pub record GoesBack (old new : Memory) (block : ℕ) : Type 0 where
  pub pool : new.pool ≡ given_back old.pool block
  pub others : (other owner : ℕ) → slot_at old.slots other ≡ Taken owner → other ≢ block →
      (slot_at new.slots other ≡ Taken owner) × (class_at new.pool other ≡ class_at old.pool other)

-- Draws and returns, one after another. --

-- these blocks were drawn for a size, in order
abbrev pub DrawsEach : PoolState → PoolState → ℕ → List ℕ → Type 0
DrawsEach old new size [] = new ≡ old
DrawsEach old new size (block ∷ blocks) =
    (between : PoolState) × (DrawsFor old between size block × DrawsEach between new size blocks)

-- these blocks were given back, in order
abbrev pub all_given_back : PoolState → List ℕ → PoolState
all_given_back pool [] = pool
all_given_back pool (block ∷ blocks) = all_given_back (given_back pool block) blocks
