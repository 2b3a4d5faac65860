-- What an application has in its bag of the messages that it received, and of the buffers that it
-- hasn't sent.
use Rattle.std.specs.Prelude.{◌≡◌, ℕ, ◌≤◌, ◌==◌, ◌&&◌, ◌++◌, List, length, count_by, is_some, Option, None, if◌then◌else◌}
use Rattle.std.specs.Option.{option_map}
use Rattle.lend_block.specs.Loan.{LentBytes}
use Rattle.bus_words.specs.Bus.{Pipe, Buffer, owns, unsent_at}
use Rattle.buf_desc.specs.Block.{Unsent}
use Rattle.buf_desc.specs.Held.{Holding, view_at, buffer_at}
use Rattle.bus_messages.specs.Store.{LastLoan, BufferDesc}
use Rattle.bus_words.specs.Pipes.{last_on}
use Rattle.bus_messages.specs.Words.{loan_of, desc_of, size_for}

-- Views. --

-- the view of the last message of the pipe of this number, if it has one
abbrev pub last_view : List Pipe → List LastLoan → ℕ → Option LentBytes
last_view pipes loans number =
    option_map (λ item. record { loan = loan_of loans number; bytes = item.message })
    (last_on pipes number)

-- the view that the application has of the pipe of this number: of its last message, if the pipe
-- is its own
abbrev pub view_due : List Pipe → List LastLoan → ℕ → ℕ → Option LentBytes
view_due pipes loans app number =
    if owns pipes app number then last_view pipes loans number else None

-- how many of the application's pipes have a last message
abbrev pub views_due : List Pipe → ℕ → ℕ
views_due pipes app = count_by (λ pipe. pipe.owner == app && is_some pipe.last) pipes

-- the bag has the views that are due and no others, and room for one of each pipe, of which there
-- are at most so many
pub record HoldsViews (pipes : List Pipe) (loans : List LastLoan) (most app : ℕ)
    (bag : Holding LentBytes) : Type 0 where
  pub seen : (pipe : ℕ) → view_at bag pipe ≡ view_due pipes loans app pipe
  pub counted : length bag.views ≡ views_due pipes app
  pub room : most ≤ bag.view_room

-- Buffers. --

-- what is told of the block of an unsent buffer: its descriptor, its size, and how many bytes of it
-- were asked for
pub record Shape : Type 0 where
  pub desc : ℕ
  pub size : ℕ
  pub asked : ℕ

-- a block is so shaped; its bytes are the application's to write
abbrev pub shape_of : Unsent → Shape
shape_of block = record { desc = block.desc; size = block.size; asked = length block.bytes }

-- how the block is shaped that the application has for this number: that of its unsent buffer,
-- if it has one
abbrev pub buffer_due : List (List Buffer) → List BufferDesc → List ℕ → ℕ → ℕ → Option Shape
buffer_due unsent descs sizes app number =
    option_map
    (λ buffer.
    record {
      desc = desc_of descs number;
      size = size_for sizes buffer.size;
      asked = buffer.size;
    }) (unsent_at unsent app number)

-- the bag of an application, which are numbered from 1, has the blocks of its unsent buffers, and
-- no others
pub record HoldsBuffers (unsent : List (List Buffer)) (descs : List BufferDesc) (sizes : List ℕ)
    (app : ℕ) (bag : Holding LentBytes) : Type 0 where
  pub known : 1 ≤ app
  pub due : (number : ℕ) →
      option_map shape_of (buffer_at bag number) ≡ buffer_due unsent descs sizes app number

-- the bag with the blocks put back that are lent out of it
abbrev pub with_lent : Holding LentBytes → List Unsent → Holding LentBytes
with_lent bag lent = record bag { buffers = lent ++ bag.buffers }

-- for this number the bag has the block of the application's unsent buffer, if it has one
pub record HoldsBuffer (unsent : List (List Buffer)) (descs : List BufferDesc) (sizes : List ℕ)
    (app : ℕ) (bag : Holding LentBytes) (number : ℕ) : Type 0 where
  pub known : 1 ≤ app
  pub due : option_map shape_of (buffer_at bag number) ≡ buffer_due unsent descs sizes app number

-- with the blocks that are lent out put back, the bag has those of the application's unsent
-- buffers, and no others
pub record HoldsBuffersInPart (unsent : List (List Buffer)) (descs : List BufferDesc)
    (sizes : List ℕ) (app : ℕ) (bag : Holding LentBytes) : Type 0 where
  pub lent : List Unsent
  pub holds : HoldsBuffers unsent descs sizes app (with_lent bag lent)
