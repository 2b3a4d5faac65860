-- What a bag has of a block that is lent out of it.
use Rattle.std.specs.Prelude.{◌≡◌, ◌≤◌, length, replicate}
use Rattle.buf_desc.specs.Block.{Unsent}

-- what stays of a block in the bag while its memory is lent
abbrev pub seat_of : Unsent → Unsent
seat_of block = record block { bytes = replicate (length block.bytes) 0 }

-- a block is one that stays so, and what was asked for lies within it
pub record IsSeat (block : Unsent) : Type 0 where
  pub zeros : block ≡ seat_of block
  pub within : length block.bytes ≤ block.size
