-- What a desk and a bag keep of their own, and how memory is written over.
use Rattle.std.specs.Prelude.{◌≡◌, ℕ, ◌<◌, ◌≤◌, true, false, List, length, slice_index_or}
use Rattle.std.specs.Borrow.{MutBor}
use Rattle.es_pool.specs.Pool.{PoolState, is_out, size_at, most_cut, rest_of}
use Rattle.buf_desc.specs.Slots.{slot_at}
use Rattle.buf_desc.specs.declared.slot.Slot.{Slot}
use Rattle.buf_desc.specs.declared.slot.Slot.TheVariants.{Free, Unsent, Sealed}

-- the reference, with these bytes behind it
abbrev pub ended : MutBor (List ℕ) → List ℕ → MutBor (List ℕ)
ended reference bytes =
    record { ref_ptr = reference.ref_ptr; ghost_name = reference.ghost_name; now = bytes }

-- The desk. --

-- a slot agrees with the pool on whether its block is out, and on its size
abbrev pub Fits : PoolState → ℕ → Slot → Type 0
Fits pool desc (Free size) = (is_out pool desc ≡ false) × (size ≡ size_at pool desc)
Fits pool desc (Unsent number asked) = is_out pool desc ≡ true
Fits pool desc (Sealed sent) = (is_out pool desc ≡ true) × (sent.size ≡ size_at pool desc)

-- every block of the pool has a slot that fits it, there is room for the others, and the region has
-- the bytes for them
pub record IsKept (pool : PoolState) (slots : List Slot) (rest capacity : ℕ) : Type 0 where
  pub all : length slots ≡ length pool.blocks
  pub room : most_cut pool ≤ capacity
  pub region : rest_of pool ≤ rest
  pub fits : (desc : ℕ) → desc < length slots → Fits pool desc (slot_at slots desc)

-- A bag. --

-- the keys rise, so that no key comes twice
abbrev pub IsRisingBy : {X : Type 0} → (X → ℕ) → List X → Type 0
IsRisingBy {X} key xs = (i j : ℕ) (d : X) → i < j → j < length xs →
    key (slice_index_or xs i d) < key (slice_index_or xs j d)

-- the element at a place has the key
pub record IsAt {X : Type 0} (key : X → ℕ) (xs : List X) (k i : ℕ) : Type 0 where
  pub within : i < length xs
  pub has_key : (d : X) → key (slice_index_or xs i d) ≡ k

-- an element of the key would go to this place: smaller keys stand before it, and greater ones from
-- it on
pub record IsGapFor {X : Type 0} (key : X → ℕ) (xs : List X) (k i : ℕ) : Type 0 where
  pub within : i ≤ length xs
  pub smaller_before : (j : ℕ) (d : X) → j < i → key (slice_index_or xs j d) < k
  pub greater_after : (j : ℕ) (d : X) → i ≤ j → j < length xs → k < key (slice_index_or xs j d)
