-- The pipes of a bus with their messages, as the layer above sees them: each pipe has copies, and
-- nothing is shared.
use Rattle.std.specs.Prelude.{ℕ, List, [], replicate, length}
use Rattle.fsw_base.specs.Limits.{Limits}
use Rattle.fsw_base.specs.PoolAccounts.{Account}
use Rattle.bus_words.specs.Bus.{Pipe, Subscription, Buffer}
use Rattle.bus_words.specs.declared.miss.Miss.{Miss}
use Rattle.bus_routes.specs.Rows.{RouteRow}
use Rattle.bus_routes.specs.Tables.{Room, room_for}

-- A live pipe, and the loan that its last message is lent by; 0 if it has none.
pub record LastLoan : Type 0 where
  pub pipe : ℕ
  pub loan : ℕ

-- An unsent buffer's number, and the descriptor of its block.
pub record BufferDesc : Type 0 where
  pub number : ℕ
  pub desc : ℕ

-- The live pipes with their messages and how many were created, the live subscriptions and how many
-- were made, each in order of number; the routes in order of making; the room for them; the pipes
-- that missed the message sent last; of each application, from 1, the buffers that it hasn't sent,
-- the newest first; how many send numbers were given; the account of the pool; the loan of each
-- pipe's last message, in order of pipes; and the descriptor of each unsent buffer.
pub record Store : Type 0 where
  pub pipes : List Pipe
  pub pipes_created : ℕ
  pub subscriptions : List Subscription
  pub subscriptions_made : ℕ
  pub routes : List RouteRow
  pub room : Room
  pub missed : List Miss
  pub unsent : List (List Buffer)
  pub numbers_given : ℕ
  pub account : Account
  pub loans : List LastLoan
  pub descs : List BufferDesc

-- the account of a pool of which nothing was drawn
abbrev pub unused : ℕ → List ℕ → Account
unused bytes sizes = record {
  bytes = bytes;
  sizes = sizes;
  made = replicate (length sizes) 0;
  out = replicate (length sizes) 0;
  requests = 0;
  errors = 0;
}

-- nothing was created, sent or allocated yet, by so many applications
abbrev pub opened : Limits → ℕ → Store
opened limits apps = record {
  pipes = [];
  pipes_created = 0;
  subscriptions = [];
  subscriptions_made = 0;
  routes = [];
  room = room_for limits;
  missed = [];
  unsent = replicate apps [];
  numbers_given = 0;
  account = unused limits.pool limits.sizes;
  loans = [];
  descs = [];
}
