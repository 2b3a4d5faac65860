-- What a pool keeps beside its blocks, so that no call has to look for anything.
use Rattle.std.specs.Prelude.{◌≡◌, ◌==◌, ◌&&◌, ℕ, ◌+◌, ◌*◌, ◌<◌, ◌≤◌, Bool, true, not, if◌then◌else◌, List, length, slice_index, slice_index_or, IsTrue}
use Rattle.bucket_list.specs.Lists.{Listed, listed_at, times_in}
use Rattle.fsw_base.specs.Blocks.{are_block_sizes}
use Rattle.es_pool.specs.declared.blocks.CutBlock.{CutBlock}
use Rattle.fsw_base.specs.PoolAccounts.{overhead}
use Rattle.es_pool.specs.Pool.{PoolState, made_in, free_in, used_by, in_use_by}

-- a block is a free one of a class
abbrev pub is_free_in : ℕ → CutBlock → Bool
is_free_in class block = (block.class == class) && not block.out

-- how often a block stands in the list of the free ones of a class: once if it is one of them,
-- else never
abbrev pub free_mark : List CutBlock → ℕ → ℕ → ℕ
free_mark blocks class number =
    if is_free_in class (slice_index_or blocks number (record { class = 0; out = true })) then 1
    else 0

-- the rest, the bytes in use, the blocks made of each class and the lists of free blocks of each
-- class are the pool's, and there is room for every block that can be cut
pub record IsKept (pool : PoolState) (rest in_use : ℕ) (made : List ℕ) (free : Listed)
    (capacity : ℕ) : Type 0 where
  pub sizes_fit : IsTrue (are_block_sizes pool.sizes)
  pub within : pool.bytes ≤ pool.most
  pub adds_up : used_by pool.sizes pool.blocks + rest ≡ pool.bytes
  pub in_use_is : in_use ≡ in_use_by pool.sizes pool.blocks
  pub made_all : length made ≡ length pool.sizes
  pub made_is : (class : ℕ) → class < length pool.sizes →
      slice_index made class ≡ made_in pool.blocks class
  pub lists_all : length free.lists ≡ length pool.sizes
  pub listed : (class number : ℕ) → class < length pool.sizes →
      times_in (listed_at free class) number ≡ free_mark pool.blocks class number
  pub counted : (class : ℕ) → class < length pool.sizes →
      length (listed_at free class) ≡ free_in pool.blocks class
  pub nodes_all : free.nodes ≡ length pool.blocks
  pub classes : (number : ℕ) → number < length pool.blocks →
      (slice_index_or pool.blocks number (record { class = 0; out = true })).class <
      length pool.sizes
  pub room : free.room ≡ capacity
  pub enough : pool.most < (capacity + 1) * (slice_index pool.sizes 0 + overhead)
