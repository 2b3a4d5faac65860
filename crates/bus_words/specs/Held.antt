-- Which sends and unsent buffers are held, and what the bus's pool gave for them: a number that is
-- held has one block, and there are no others.
use Rattle.std.specs.Prelude.{◌≡◌, ℕ, zero, suc, ◌+◌, ◌-◌, ◌*◌, ◌^◌, ◌<◌, ◌≤◌, ◌==◌, ◌||◌, min, nat_le, Bool, true, All, List, [], ◌∷◌, ◌++◌, length, replicate, find, filter, count_by, sum_by, slice_index, false, Option, Some, None, if◌then◌else◌}
use Rattle.std.specs.Option.{option_map_or, option_to_list}
use Rattle.std.specs.List.{list_any}
use Rattle.fsw_base.specs.Blocks.{class_of}
use Rattle.housekeeping.specs.declared.in_use.InUse.{InUse}
use Rattle.fsw_base.specs.Limits.{Limits}
use Rattle.fsw_base.specs.PoolAccounts.{Account, cost_of, after_request}
use Rattle.bus_words.specs.Bus.{Item, Pipe, Buffer, State}

-- Sends. --

-- 1 if there is an item, and it is of this send
abbrev pub names : ℕ → Option Item → ℕ
names number None = 0
names number (Some item) = if item.number == number then 1 else 0

-- how often a pipe names the send: once for each of its messages that waits, and once if it was
-- received last
abbrev pub named_by : ℕ → Pipe → ℕ
named_by number pipe = count_by (λ item. item.number == number) pipe.queue + names number pipe.last

-- whether a pipe names the send: a message of it waits there, or was received last
abbrev pub is_on_pipes : List Pipe → ℕ → Bool
is_on_pipes pipes number = nat_le 1 (sum_by (named_by number) pipes)

-- whether the number is that of a buffer which some application hasn't sent
abbrev pub is_unsent : List (List Buffer) → ℕ → Bool
is_unsent unsent number =
    list_any (λ buffers. list_any (λ buffer. buffer.number == number) buffers) unsent

-- a number is held as long as a pipe names its send, or its buffer is unsent
abbrev pub is_held : List Pipe → List (List Buffer) → ℕ → Bool
is_held pipes unsent number = is_on_pipes pipes number || is_unsent unsent number

-- the numbers from 1 to this one
abbrev pub numbers_to : ℕ → List ℕ
numbers_to zero = []
numbers_to (suc n) = numbers_to n ++ suc n ∷ []

-- the numbers that are held, of so many given
abbrev pub held : List Pipe → List (List Buffer) → ℕ → List ℕ
held pipes unsent given = filter (is_held pipes unsent) (numbers_to given)

-- all items of the pipes: of each the one received last, then those that wait
abbrev pub items_of : List Pipe → List Item
items_of [] = []
items_of (pipe ∷ pipes) = option_to_list pipe.last ++ (pipe.queue ++ items_of pipes)

-- all unsent buffers, application by application
abbrev pub buffers_in : List (List Buffer) → List Buffer
buffers_in [] = []
buffers_in (buffers ∷ others) = buffers ++ buffers_in others

-- the size of the unsent buffer of a number, whosever it is; 0 if there is none
abbrev pub size_in : List (List Buffer) → ℕ → ℕ
size_in unsent number =
    option_map_or (λ buffer. buffer.size)
    (find (λ buffer. buffer.number == number) (buffers_in unsent)) 0

-- the size first asked for under a number that is held: that of its items, else that of its buffer
abbrev pub asked_of : List Pipe → List (List Buffer) → ℕ → ℕ
asked_of pipes unsent number =
    option_map_or (λ item. item.asked) (find (λ item. item.number == number) (items_of pipes))
    (size_in unsent number)

-- Blocks. --

-- whether the block for a number that is held is of this class of the sizes
abbrev pub has_class : List Pipe → List (List Buffer) → List ℕ → ℕ → ℕ → Bool
has_class pipes unsent sizes class number =
    option_map_or (λ other. other == class) (class_of (asked_of pipes unsent number) sizes) false

-- what is told of each place below so many
abbrev pub each_below : (ℕ → ℕ) → ℕ → List ℕ
each_below f zero = []
each_below f (suc n) = f 0 ∷ each_below (λ i. f (suc i)) n

-- for each of these sizes, how many numbers are held, of so many given, whose block has it
abbrev pub blocks_held : List ℕ → List Pipe → List (List Buffer) → ℕ → List ℕ
blocks_held sizes pipes unsent given =
    each_below (λ class. count_by (has_class pipes unsent sizes class) (held pipes unsent given))
    (length sizes)

-- the size of the block for a number that is held; 0 if no size is large enough
abbrev pub block_of : List ℕ → List Pipe → List (List Buffer) → ℕ → ℕ
block_of sizes pipes unsent number =
    option_map_or (slice_index sizes) (class_of (asked_of pipes unsent number) sizes) 0

-- The pool. --

-- the account of the bus's pool: as many blocks of each size are out as numbers are held whose
-- block has it
abbrev pub account_of : Limits → State → Account
account_of limits s = record {
  bytes = limits.pool;
  sizes = limits.sizes;
  made = s.made;
  out = blocks_held limits.sizes s.pipes s.unsent s.numbers_given;
  requests = s.drawn;
  errors = 0;
}

-- the account once a block for so many bytes was drawn
abbrev pub account_drawn : Limits → State → ℕ → Account
account_drawn limits s size = after_request (account_of limits s) size

-- so many blocks of each of these sizes, in bytes
abbrev pub bytes_of : List ℕ → List ℕ → ℕ
bytes_of [] sizes = 0
bytes_of (count ∷ counts) [] = 0
bytes_of (count ∷ counts) (size ∷ sizes) = count * size + bytes_of counts sizes

-- the sizes of the blocks that are out, added up
abbrev pub bytes_in_use : Account → ℕ
bytes_in_use account = bytes_of account.out account.sizes

-- What is in use. --

-- the ids that have a route, the live pipes, the live subscriptions, the numbers that are held,
-- unsent buffers' among them, and the sizes of their blocks, added up
abbrev pub in_use : Limits → State → InUse
in_use limits s = record {
  msgids = length s.routed;
  pipes = length s.pipes;
  subs = length s.subscriptions;
  buffers = length (held s.pipes s.unsent s.numbers_given);
  bytes = bytes_in_use (account_of limits s);
}

-- What histories keep. --

-- an unsent buffer's number was given and is on no pipe, and its size is one that a message may
-- have
pub record IsUnsentBuffer (limits : Limits) (s : State) (buffer : Buffer) : Type 0 where
  pub some : 1 ≤ buffer.number
  pub given : buffer.number ≤ s.numbers_given
  pub apart : is_on_pipes s.pipes buffer.number ≡ false
  pub least : 7 ≤ buffer.size
  pub most : buffer.size ≤ limits.msgmax

-- the unsent buffers of so many applications: each application has its list, no two buffers have
-- one number, and each buffer is as above; and a number on a pipe was given too
pub record AreUnsent (limits : Limits) (apps : ℕ) (s : State) : Type 0 where
  pub lists : length s.unsent ≡ apps
  pub once : (number : ℕ) → count_by (λ buffer. buffer.number == number) (buffers_in s.unsent) ≤ 1
  pub each : All (IsUnsentBuffer limits s) (buffers_in s.unsent)
  pub given : (number : ℕ) → is_on_pipes s.pipes number ≡ true → (1 ≤ number) ×
      (number ≤ s.numbers_given)

-- the account of the bus's pool after so many entries: each block size has its number, no more
-- blocks are out than were made, what was made is paid for by the pool's bytes, and a block was
-- drawn for each send number given
pub record IsAccounted (limits : Limits) (entries : ℕ) (s : State) : Type 0 where
  pub made_all : length s.made ≡ length limits.sizes
  pub most : (class : ℕ) → class < length limits.sizes →
      slice_index (account_of limits s).out class ≤ slice_index s.made class
  pub paid : cost_of s.made limits.sizes ≤ limits.pool
  pub drawn : s.drawn ≡ min s.numbers_given (2 ^ 32 - 1)
  pub given : s.numbers_given ≤ entries

-- no pipe is live, no application has an unsent buffer, no number is held, no block of the bus's
-- pool is out, and none of its bytes is in use
pub record HoldsNothing (limits : Limits) (s : State) : Type 0 where
  pub pipes : s.pipes ≡ []
  pub buffers : buffers_in s.unsent ≡ []
  pub sends : held s.pipes s.unsent s.numbers_given ≡ []
  pub blocks : (account_of limits s).out ≡ replicate (length limits.sizes) 0
  pub bytes : bytes_in_use (account_of limits s) ≡ 0
