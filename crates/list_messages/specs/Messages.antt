-- The part of the bus's state that messages are kept in.
use Rattle.std.specs.Prelude.{◌≡◌, ℕ, ◌+◌, ◌≤◌, not, ◌==◌, List, [], ◌∷◌, ◌++◌, filter, length, replicate}
use Rattle.fsw_base.specs.PoolAccounts.{Account, after_request}
use Rattle.bus_words.specs.Bus.{Pipe, Buffer, Subscription, Sending, new_pipe, deliver, unsent_size, with_unsent, without_unsent, without_all_unsent}
use Rattle.bus_words.specs.Held.{blocks_held}
use Rattle.list_messages.specs.Sends.{Use, names_of}
use Rattle.list_messages.specs.Tied.{IsTied}

-- The bytes and block sizes of the bus's pool; the live pipes and how many were created; the unsent
-- buffers of each application, from 1; how many send numbers were given; and of the pool how many
-- blocks of each size were made, and how many were drawn.
pub record Messages : Type 0 where
  pub pool : ℕ
  pub sizes : List ℕ
  pub pipes : List Pipe
  pub pipes_created : ℕ
  pub unsent : List (List Buffer)
  pub numbers_given : ℕ
  pub made : List ℕ
  pub drawn : ℕ

-- The messages, and of each send number how often it is named.
pub record Named : Type 0 where
  pub part : Messages
  pub uses : List Use

-- a send number is named as pipes and buffers name it, number 0 by none, and there are no more
-- pipes than were created
pub record AreNamed (uses : List Use) (given : ℕ) (pipes : List Pipe) (unsent : List (List Buffer))
    (created : ℕ) : Type 0 where
  pub given_all : length uses ≡ given + 1
  pub first : names_of uses 0 ≡ 0
  pub tied : IsTied uses pipes unsent
  pub few : length pipes ≤ created

-- send numbers are named as pipes and unsent buffers name them
abbrev pub IsKept : Named → Type 0
IsKept m = AreNamed m.uses m.part.numbers_given m.part.pipes m.part.unsent m.part.pipes_created

-- no pipe and no buffer of so many applications
abbrev pub no_messages : ℕ → List ℕ → ℕ → Messages
no_messages pool sizes apps = record {
  pool = pool;
  sizes = sizes;
  pipes = [];
  pipes_created = 0;
  unsent = replicate apps [];
  numbers_given = 0;
  made = replicate (length sizes) 0;
  drawn = 0;
}

-- the account of the pool, by the numbers that are held
abbrev pub account_in : Messages → Account
account_in m = record {
  bytes = m.pool;
  sizes = m.sizes;
  made = m.made;
  out = blocks_held m.sizes m.pipes m.unsent m.numbers_given;
  requests = m.drawn;
  errors = 0;
}

-- a new pipe stands last, numbered one more than were created
abbrev pub with_new_pipe : Messages → ℕ → ℕ → List ℕ → Messages
with_new_pipe m app depth name = record m {
  pipes = m.pipes ++ new_pipe (m.pipes_created + 1) name app depth ∷ [];
  pipes_created = m.pipes_created + 1;
}

-- a block for so many bytes was drawn, for the next send number
abbrev pub with_block : Messages → ℕ → Messages
with_block m size = record m {
  numbers_given = m.numbers_given + 1;
  made = (after_request (account_in m) size).made;
  drawn = (after_request (account_in m) size).requests;
}

-- a buffer was given to an application, under the next send number
abbrev pub with_buffer : Messages → ℕ → ℕ → Messages
with_buffer m app size =
    record (with_block m size)
    { unsent = with_unsent m.unsent app (record { number = m.numbers_given + 1; size = size }) }

-- a message that an application sends under the next number, in a block for so many bytes
abbrev pub sending_of : Messages → ℕ → ℕ → List ℕ → Sending
sending_of m sender size message =
    record {
      sender = sender;
      number = m.numbers_given + 1;
      asked = size;
      message = message;
    }

-- a message that an application sends in a buffer of its own
abbrev pub passing_of : Messages → ℕ → ℕ → List ℕ → Sending
passing_of m sender number message =
    record {
      sender = sender;
      number = number;
      asked = unsent_size m.unsent sender number;
      message = message;
    }

-- a message was sent to these subscriptions, in a block of its own
abbrev pub with_sent : Messages → Sending → List Subscription → Messages
with_sent m sending subs =
    record (with_block m sending.asked) { pipes = deliver sending subs m.pipes }

-- a buffer left, and its message was sent to these subscriptions
abbrev pub with_passed : Messages → Sending → List Subscription → Messages
with_passed m sending subs = record m {
  unsent = without_unsent m.unsent sending.sender sending.number;
  pipes = deliver sending subs m.pipes;
}

-- an application's pipes and buffers left
abbrev pub without_all_of : Messages → ℕ → Messages
without_all_of m app = record m {
  pipes = filter (λ pipe. not (pipe.owner == app)) m.pipes;
  unsent = without_all_unsent m.unsent app;
}
