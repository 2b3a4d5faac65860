-- What is sent, who misses it, which buffer has which block, and what the numbers that are held do
-- to the pool.
use Rattle.std.specs.Prelude.{ℕ, ◌+◌, ◌%◌, ◌==◌, Bool, List, length, map, find, slice_index, if◌then◌else◌}
use Rattle.std.specs.Option.{option_map_or}
use Rattle.fsw_base.specs.Blocks.{class_of}
use Rattle.fsw_base.specs.Starts.{start_of}
use Rattle.fsw_base.specs.PoolAccounts.{Account}
use Rattle.bus_words.specs.Bus.{Pipe, Buffer, Sending, pipe_at, unsent_size}
use Rattle.bus_words.specs.Held.{blocks_held}
use Rattle.bus_words.specs.Machine.{Reads, stamped, front_of}
use Rattle.bus_words.specs.Acts.{NextCount, next_in}
pub use Rattle.bus_words.specs.Bus.{missed}
use Rattle.bus_routes.specs.Rows.{RouteRow, counted_on}
use Rattle.bus_messages.specs.Store.{Store, LastLoan, BufferDesc}

-- Pipes. --

-- how many messages wait on the pipe of this number
abbrev pub waiting_on : List Pipe → ℕ → ℕ
waiting_on pipes number = option_map_or (λ pipe. length pipe.queue) (pipe_at pipes number) 0

-- the loan of the last message of the pipe of this number
abbrev pub loan_of : List LastLoan → ℕ → ℕ
loan_of loans number = option_map_or (λ one. one.loan) (find (λ one. one.pipe == number) loans) 0

-- Buffers. --

-- the descriptor of the unsent buffer of this number
abbrev pub desc_of : List BufferDesc → ℕ → ℕ
desc_of descs number = option_map_or (λ one. one.desc) (find (λ one. one.number == number) descs) 0

-- the size of the smallest block for so many bytes; 0 if none is large enough
abbrev pub size_for : List ℕ → ℕ → ℕ
size_for sizes asked = option_map_or (slice_index sizes) (class_of asked sizes) 0

-- Sequence counts. --

-- the next count that a route stands for (CCSDS 133.0-B, 4.1.3.4.3)
abbrev pub next_of : List (ℕ × ℕ) → RouteRow → NextCount
next_of starts route =
    record { id = route.id; next = (start_of starts route.id + route.counted + 1) % 16384 }

abbrev pub nexts_in : Store → List NextCount
nexts_in store = map (next_of store.room.starts) store.routes

-- what a send sees beside the pipes
abbrev pub reads_of : Store → Reads
reads_of store = record { next = next_in (nexts_in store) }

-- the routes, with the id's count moved if the send moves it
abbrev pub counted_up : List RouteRow → ℕ → Bool → List RouteRow
counted_up routes id inc = if inc then counted_on routes id else routes

-- Sends. --

-- what the application sends: under the next number, with its id's next count if it asks for it
abbrev pub sending_of : Store → ℕ → List ℕ → Bool → Sending
sending_of store sender bytes inc = record {
  sender = sender;
  number = store.numbers_given + 1;
  asked = length bytes;
  message = stamped (reads_of store) bytes inc;
}

-- what the application sends of a buffer: the message that its bytes begin with, under the buffer's
-- number
abbrev pub passing_of : Store → ℕ → ℕ → List ℕ → Bool → Sending
passing_of store sender buf bytes inc = record {
  sender = sender;
  number = buf;
  asked = unsent_size store.unsent sender buf;
  message = stamped (reads_of store) (front_of bytes) inc;
}

-- The pool. --

-- this account, with as many blocks of each size out as numbers are held, of so many given: by
-- these pipes, or as these unsent buffers
abbrev pub with_held : Account → List Pipe → List (List Buffer) → ℕ → Account
with_held account pipes unsent given =
    record account { out = blocks_held account.sizes pipes unsent given }
