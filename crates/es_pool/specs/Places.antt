-- Where the blocks of a pool lie, in memory of as many bytes as the pool has: one behind the other
-- in order of cutting, each behind the bytes that cutting it costs beyond its size.
use Rattle.std.specs.Prelude.{◌≡◌, ℕ, ◌+◌, ◌<◌, nat_le, nat_lt, ◌&&◌, Bool, List, length, take, slice_index}
use Rattle.fsw_base.specs.PoolAccounts.{overhead}
use Rattle.es_pool.specs.Pool.{PoolState, used_by, size_at}

-- where a block begins, in bytes from the pool's first byte on
abbrev pub offset_at : PoolState → ℕ → ℕ
offset_at pool number = used_by pool.sizes (take number pool.blocks) + overhead

-- the byte at a place is the block's
abbrev pub has_byte : PoolState → ℕ → ℕ → Bool
has_byte pool number place =
    nat_le (offset_at pool number) place &&
    nat_lt place (offset_at pool number + size_at pool number)

-- these are the places of the pool's blocks
pub record AreOffsetsOf (pool : PoolState) (offsets : List ℕ) : Type 0 where
  pub many : length offsets ≡ length pool.blocks
  pub each : (number : ℕ) → number < length pool.blocks →
      slice_index offsets number ≡ offset_at pool number
