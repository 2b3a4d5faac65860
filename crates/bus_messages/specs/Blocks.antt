-- The blocks of the pool, told by what the pipes hold and which buffers are unsent: one for each
-- number that is held, and no others; and how sends are numbered.
use Rattle.std.specs.Prelude.{◌≡◌, ℕ, ◌≤◌, true, List, sum_by, Some}
use Rattle.std.specs.List.{All}
use Rattle.es_pool.specs.Pool.{PoolState, size_at, is_out}
use Rattle.buf_desc.specs.Block.{Sealed}
use Rattle.buf_desc.specs.Desk.{Buffers}
use Rattle.buf_desc.specs.Slots.{slot_at, sealed_at, is_sealed, is_open, is_live, number_in, asked_in, HaveOwnNumbers}
use Rattle.buf_desc.specs.declared.slot.Slot.{Slot}
use Rattle.bus_words.specs.Bus.{Item, Pipe, Buffer}
use Rattle.bus_words.specs.Held.{names, named_by, is_on_pipes, is_unsent, items_of, size_in}
use Rattle.bus_messages.specs.Store.{LastLoan, BufferDesc}
use Rattle.bus_words.specs.Pipes.{last_on}
use Rattle.bus_messages.specs.Words.{loan_of, desc_of, size_for}

-- Sends. --

-- a number is one of those given
pub record IsGiven (given number : ℕ) : Type 0 where
  pub first : 1 ≤ number
  pub last : number ≤ given

-- if two items have one number they are of one send: they have one message, and one size was
-- asked for
abbrev pub AreOfOneSend : Item → Item → Type 0
AreOfOneSend item other =
    item.number ≡ other.number → (item.message ≡ other.message) × (item.asked ≡ other.asked)

-- Blocks. --

-- 1 if the pipe received the send last
abbrev pub last_by : ℕ → Pipe → ℕ
last_by number pipe = names number pipe.last

-- A sealed block is that of a send which the pipes hold: it has the smallest size for what was
-- asked, and is written with the message of the items that name the send; each such item is one use
-- of it, and each last one has a view of it out, by the block's loan.
pub record IsBlockOf (sizes : List ℕ) (pipes : List Pipe) (loans : List LastLoan)
    (block : Sealed) : Type 0 where
  pub named : is_on_pipes pipes block.number ≡ true
  pub size : block.size ≡ size_for sizes block.asked
  pub asked : All (λ item. item.number ≡ block.number → item.asked ≡ block.asked) (items_of pipes)
  pub bytes : All (λ item. item.number ≡ block.number → item.message ≡ block.bytes) (items_of pipes)
  pub uses : block.uses ≡ sum_by (named_by block.number) pipes
  pub views : block.views ≡ sum_by (last_by block.number) pipes
  pub loan : (pipe : ℕ) (item : Item) → last_on pipes pipe ≡ Some item →
      item.number ≡ block.number → loan_of loans pipe ≡ block.loan

-- An unsent block is that of an unsent buffer: it has the buffer's descriptor, what was asked for
-- is the buffer's size, and it has the smallest size for that.
pub record IsBufferBlock (buffers : Buffers) (unsent : List (List Buffer)) (descs : List BufferDesc)
    (desc : ℕ) : Type 0 where
  pub of_buffer : is_unsent unsent (number_in (slot_at buffers.slots desc)) ≡ true
  pub desc_told : desc_of descs (number_in (slot_at buffers.slots desc)) ≡ desc
  pub asked : asked_in (slot_at buffers.slots desc) ≡
      size_in unsent (number_in (slot_at buffers.slots desc))
  pub size : size_at buffers.pool desc ≡
      size_for buffers.pool.sizes (asked_in (slot_at buffers.slots desc))

-- a block is sealed for this send
pub record HasBlock (slots : List Slot) (send : ℕ) : Type 0 where
  pub desc : ℕ
  pub sealed : is_sealed (slot_at slots desc) ≡ true
  pub has_number : (sealed_at slots desc).number ≡ send

-- a block is unsent, and has this number
pub record HasBuffer (slots : List Slot) (number : ℕ) : Type 0 where
  pub desc : ℕ
  pub open_block : is_open (slot_at slots desc) ≡ true
  pub has_number : number_in (slot_at slots desc) ≡ number

-- Every block that is sealed is that of a send which the pipes hold, and each such send has one;
-- every block that is unsent is that of an unsent buffer, and each of these has one; and no two
-- blocks have one number.
pub record AreBlocks (buffers : Buffers) (pipes : List Pipe) (loans : List LastLoan)
    (unsent : List (List Buffer)) (descs : List BufferDesc) : Type 0 where
  pub each_sealed : (desc : ℕ) → is_sealed (slot_at buffers.slots desc) ≡ true →
      IsBlockOf buffers.pool.sizes pipes loans (sealed_at buffers.slots desc)
  pub each_unsent : (desc : ℕ) → is_open (slot_at buffers.slots desc) ≡ true →
      IsBufferBlock buffers unsent descs desc
  pub all_sends : (number : ℕ) → is_on_pipes pipes number ≡ true → HasBlock buffers.slots number
  pub all_buffers : (number : ℕ) → is_unsent unsent number ≡ true → HasBuffer buffers.slots number
  pub one : HaveOwnNumbers buffers.slots

-- a pool is the one that such blocks are drawn from: those of its blocks are out that are live
pub record IsBlockPool (pool : PoolState) (pipes : List Pipe) (loans : List LastLoan)
    (unsent : List (List Buffer)) (descs : List BufferDesc) : Type 0 where
  pub buffers : Buffers
  pub are : AreBlocks buffers pipes loans unsent descs
  pub is : pool ≡ buffers.pool
  pub live : (desc : ℕ) → is_live (slot_at buffers.slots desc) ≡ is_out buffers.pool desc
