-- Buffers that applications have outside of their bags, to write them in place: the bag has a seat
-- of each, which is the block with zeros for its bytes.
use Rattle.std.specs.Prelude.{◌≡◌, ℕ, ◌==◌, not, Bool, false, List, [], length, take, replicate, Option, None, IsSome}
use Rattle.std.specs.Option.{option_map, option_map_or, unwrap_or}
use Rattle.lend_block.specs.Loan.{LentBytes}
use Rattle.buf_desc.specs.Held.{Holding, buffer_at, bytes_at}

-- a buffer outside of the bag: its number, and the bytes of its whole block, if there is one
pub record Lent : Type 0 where
  pub number : ℕ
  pub bytes : Option (List ℕ)

-- none
abbrev pub no_buffer : Lent
no_buffer = record { number = 0; bytes = None }

-- the bytes of the block; none if there is no block
abbrev pub bytes_in : Lent → List ℕ
bytes_in buffer = unwrap_or buffer.bytes []

-- the memory is as long as a block
abbrev pub is_as_long : Lent → ℕ → Bool
is_as_long buffer size = option_map_or (λ bytes. length bytes == size) buffer.bytes false

-- the bag has a seat of the buffer's number, and the memory is no block for it
abbrev pub is_misfit : Holding LentBytes → Lent → Bool
is_misfit bag buffer =
    option_map_or (λ block. not (is_as_long buffer block.size)) (buffer_at bag buffer.number) false

-- what the application wrote into the buffer: as many of the first bytes as were asked for
abbrev pub written : Holding LentBytes → Lent → List ℕ
written bag buffer = take (length (bytes_at bag buffer.number)) (bytes_in buffer)

-- the application keeps the buffer, with what it wrote there; behind that, the block may have other
-- bytes
pub record StaysOut (bag : Holding LentBytes) (old new : Lent) : Type 0 where
  pub number : new.number ≡ old.number
  pub size : option_map (λ bytes. length bytes) new.bytes ≡
      option_map (λ bytes. length bytes) old.bytes
  pub bytes : written bag new ≡ written bag old

-- the buffer is the one of this number, with zeros for the bytes that were asked for, and a block
-- behind it of the size that the bag's seat has
pub record IsGivenOut (bag : Holding LentBytes) (asked number : ℕ) (buffer : Lent) : Type 0 where
  pub number_is : buffer.number ≡ number
  pub out : IsSome buffer.bytes
  pub whole : option_map (λ bytes. length bytes) buffer.bytes ≡
      option_map (λ block. block.size) (buffer_at bag number)
  pub zeros : take asked (bytes_in buffer) ≡ replicate asked 0
