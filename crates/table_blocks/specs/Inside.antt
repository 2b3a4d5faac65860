-- What the types of this crate keep of their own.
use Rattle.std.specs.Prelude.{◌≡◌, ◌≢◌, ⊤, ℕ, ◌+◌, ◌<◌, ◌≤◌, Bool, true, false, List, length, All, Option, Some}
use Rattle.fsw_base.specs.Blocks.{class_of}
use Rattle.es_pool.specs.Pool.{PoolState, is_out, class_at, size_at, most_cut, rest_of}
use Rattle.table_blocks.specs.Memory.{Memory, slot_at}
use Rattle.table_blocks.specs.Contents.{Content, is_double, is_staged, staged_in, kept_at}
use Rattle.table_blocks.specs.Blocks.{buffers_taken}
use Rattle.table_blocks.specs.declared.next.Next.{Next}
use Rattle.table_blocks.specs.declared.next.Next.TheVariants.{Nothing, Inactive, Staged}
use Rattle.table_blocks.specs.declared.slot.Slot.{Slot}
use Rattle.table_blocks.specs.declared.slot.Slot.TheVariants.{Free, Taken}

-- The memory. --

-- a slot agrees with the pool on whether its block is out, and on its size
abbrev pub Fits : PoolState → ℕ → Slot → Type 0
Fits pool block (Free bytes) = (is_out pool block ≡ false) × (length bytes ≡ size_at pool block)
Fits pool block (Taken key) = is_out pool block ≡ true

-- every block of the pool has a slot that fits it, there is room for the others, and the region has
-- the bytes for them
pub record IsKept (pool : PoolState) (slots : List Slot) (rest capacity : ℕ) : Type 0 where
  pub all : length slots ≡ length pool.blocks
  pub room : most_cut pool ≤ capacity
  pub region : rest_of pool ≤ rest
  pub fits : (block : ℕ) → block < length slots → Fits pool block (slot_at slots block)

-- A table. --

-- what lies beside the present version fits the option: a double-buffered table always has its
-- other block, as large as the first
abbrev pub IsBeside : Bool → ℕ → ℕ → Next → Type 0
IsBeside true size whole Nothing = ⊥
IsBeside true size whole (Inactive version) =
    (version.whole ≡ whole) × (length version.bytes ≡ size)
IsBeside true size whole (Staged value) = (value.whole ≡ whole) × (length value.bytes ≡ size)
IsBeside false size whole Nothing = ⊤
IsBeside false size whole (Inactive version) = ⊥
IsBeside false size whole (Staged value) = length value.bytes ≡ size

-- each value has the table's size, and a block has room for it
pub record IsTable (c : Content) : Type 0 where
  pub present : length c.present.bytes ≡ c.size
  pub room : c.size ≤ c.present.whole
  pub beside : IsBeside (is_double c) c.size c.present.whole c.next

-- All tables. --

-- a table's blocks are its own, two if it is double buffered, of the size that the pool takes
-- for its bytes; it is no larger than a working buffer, and one that it has is whole
pub record IsHeld (memory : Memory) (most key : ℕ) (c : Content) : Type 0 where
  pub small : c.size ≤ most
  pub first : slot_at memory.slots c.first ≡ Taken key
  pub second : slot_at memory.slots c.second ≡ Taken key
  pub first_class : class_of c.size memory.pool.sizes ≡ Some (class_at memory.pool c.first)
  pub second_class : class_of c.size memory.pool.sizes ≡ Some (class_at memory.pool c.second)
  pub whole : c.present.whole ≡ size_at memory.pool c.first
  pub apart : is_double c ≡ true → c.first ≢ c.second
  pub working : is_double c ≡ false → is_staged c.next ≡ true → (staged_in c.next).whole ≡ most

-- this is so of each table; the working buffers are whole, four with those that tables have, and
-- there is room for all of them
pub record IsStore (memory : Memory) (most : ℕ) (tables : List (Option Content))
    (work : List (List ℕ)) (capacity : ℕ) : Type 0 where
  pub held : (key : ℕ) (c : Content) → kept_at tables key ≡ Some c → IsHeld memory most key c
  pub buffers : length work + buffers_taken tables ≡ 4
  pub room : 4 ≤ capacity
  pub whole : All (λ bytes. length bytes ≡ most) work
