-- The figures of a memory pool by block size.
use Rattle.std.specs.Prelude.{ℕ, ◌-◌, nat_lt, length, slice_index, Option, Some, None, if◌then◌else◌}
use Rattle.es_pool.specs.declared.blocks.ClassStats.{ClassStats}
use Rattle.fsw_base.specs.Grants.{PoolGrants, out_of}

-- a pool's block size of this place, how many of its blocks were made, and how many of them are
-- free; none past the last place
abbrev pub class_figures : PoolGrants → ℕ → Option ClassStats
class_figures pool place =
    if nat_lt place (length pool.sizes)
    then Some
    (record {
      size = slice_index pool.sizes place;
      made = slice_index pool.made place;
      free = slice_index pool.made place - out_of place pool.out;
    })
    else None
