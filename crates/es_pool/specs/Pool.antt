-- A memory pool as its user sees it: the blocks cut so far, and what can still be drawn.
use Rattle.std.specs.Prelude.{◌≡◌, ◌==◌, ◌&&◌, ℕ, ◌+◌, ◌-◌, ◌*◌, ◌/◌, ◌<◌, ◌≤◌, nat_le, Bool, true, false, not, if◌then◌else◌, List, ◌∷◌, [], ◌++◌, length, slice_index, slice_index_or, slice_set, sum_by, count_by, Option, Some, None, IsTrue}
use Rattle.fsw_base.specs.PoolAccounts.{counted, overhead}
use Rattle.fsw_base.specs.Blocks.{are_block_sizes, class_of}
use Rattle.es_pool.specs.declared.blocks.CutBlock.{CutBlock}

-- the pool's bytes and the most that they can be set to, its block sizes, the blocks cut so far in
-- order of cutting, so that a block's number is its place, how many blocks were drawn, and how many
-- puts were refused
pub record PoolState : Type 0 where
  pub bytes : ℕ
  pub most : ℕ
  pub sizes : List ℕ
  pub blocks : List CutBlock
  pub requests : ℕ
  pub errors : ℕ

-- how many blocks of a class were cut
abbrev pub made_in : List CutBlock → ℕ → ℕ
made_in blocks class = count_by (λ block. block.class == class) blocks

-- how many blocks of a class are out
abbrev pub out_in : List CutBlock → ℕ → ℕ
out_in blocks class = count_by (λ block. (block.class == class) && block.out) blocks

-- how many blocks of a class are free
abbrev pub free_in : List CutBlock → ℕ → ℕ
free_in blocks class = count_by (λ block. (block.class == class) && not block.out) blocks

-- the bytes that cutting these blocks took: for each its size and the overhead
abbrev pub used_by : List ℕ → List CutBlock → ℕ
used_by sizes blocks = sum_by (λ block. slice_index sizes block.class + overhead) blocks

-- the sizes of the blocks that are out, added up
abbrev pub in_use_by : List ℕ → List CutBlock → ℕ
in_use_by sizes blocks =
    sum_by (λ block. if block.out then slice_index sizes block.class else 0) blocks

-- the bytes never cut
abbrev pub rest_of : PoolState → ℕ
rest_of pool = pool.bytes - used_by pool.sizes pool.blocks

-- so many blocks of a class can be drawn: what has to be cut beyond the blocks made so far still
-- fits
abbrev pub fits_class : PoolState → ℕ → ℕ → Bool
fits_class pool class count =
    nat_le
    (used_by pool.sizes pool.blocks
    + (slice_index pool.sizes class + overhead) *
    (out_in pool.blocks class + count - made_in pool.blocks class))
    pool.bytes

-- so many blocks for a size can be drawn: some block size is large enough, and that many of the
-- smallest such size fit
abbrev pub fits_if : PoolState → ℕ → Option ℕ → Bool
fits_if pool count None = false
fits_if pool count (Some class) = fits_class pool class count

abbrev pub fits : PoolState → ℕ → ℕ → Bool
fits pool size count = fits_if pool count (class_of size pool.sizes)

-- a block that isn't in the pool counts as one that isn't free and isn't out
abbrev pub is_out : PoolState → ℕ → Bool
is_out pool number = (slice_index_or pool.blocks number (record { class = 0; out = false })).out

-- a block was cut and is free now
abbrev pub is_free : PoolState → ℕ → Bool
is_free pool number = not (slice_index_or pool.blocks number (record { class = 0; out = true })).out

-- a draw of a class: a free block of the class goes out; if none is free, the next block is cut
pub data Draws (old new : PoolState) (class number : ℕ) : Type 0 where
  Reuses :
      number < length old.blocks
      → slice_index_or old.blocks number (record { class = class; out = true }) ≡
      record { class = class; out = false }
      → new ≡ record old {
        blocks = slice_set old.blocks number (record { class = class; out = true });
        requests = counted old.requests;
      }
      → Draws old new class number
  Cuts :
      free_in old.blocks class ≡ 0
      → number ≡ length old.blocks
      → new ≡ record old {
        blocks = old.blocks ++ record { class = class; out = true } ∷ [];
        requests = counted old.requests;
      }
      → Draws old new class number

-- a draw for a size is one of the smallest class that is large enough
abbrev pub DrawsIf : PoolState → PoolState → ℕ → Option ℕ → Type 0
DrawsIf old new number None = ⊥
DrawsIf old new number (Some class) = Draws old new class number

abbrev pub DrawsFor : PoolState → PoolState → ℕ → ℕ → Type 0
DrawsFor old new size number = DrawsIf old new number (class_of size old.sizes)

-- how many blocks are out
abbrev pub out_among : List CutBlock → ℕ
out_among blocks = count_by (λ block. block.out) blocks

-- the class of a block
abbrev pub class_at : PoolState → ℕ → ℕ
class_at pool number = (slice_index_or pool.blocks number (record { class = 0; out = true })).class

-- a block that was out is free in its own class
abbrev pub given_back : PoolState → ℕ → PoolState
given_back pool number =
    record pool
    { blocks = slice_set pool.blocks number (record { class = class_at pool number; out = false }) }

-- the size of a block
abbrev pub size_at : PoolState → ℕ → ℕ
size_at pool number = slice_index pool.sizes (class_at pool number)

-- how many blocks can ever be cut: the most bytes, divided by what the smallest block costs
abbrev pub most_cut : PoolState → ℕ
most_cut pool = pool.most / (slice_index pool.sizes 0 + overhead)

-- what is always true of a pool: its sizes rise, what was cut is paid for by its bytes, each block
-- has one of the sizes, and no more blocks were cut than ever can be
pub record IsWhole (pool : PoolState) : Type 0 where
  pub sizes_fit : IsTrue (are_block_sizes pool.sizes)
  pub within : pool.bytes ≤ pool.most
  pub paid : used_by pool.sizes pool.blocks ≤ pool.bytes
  pub classes : (number : ℕ) → number < length pool.blocks →
      class_at pool number < length pool.sizes
  pub few : length pool.blocks ≤ most_cut pool
