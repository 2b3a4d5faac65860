-- How the pipes' items and the blocks belong together, and what the fields stand for.
use Rattle.std.specs.Prelude.{◌≡◌, ℕ, ◌+◌, ◌-◌, ◌^◌, ◌<◌, ◌≤◌, ◌==◌, nat_le, true, false, List, [], ◌∷◌, length, map, flat_map, sum_by, count_by, Option, Some, None, IfSome, if◌then◌else◌}
use Rattle.std.specs.List.{All}
use Rattle.std.specs.Option.{option_map_or}
use Rattle.fsw_base.specs.Blocks.{class_of}
use Rattle.fsw_base.specs.PoolAccounts.{Account, after_return}
use Rattle.bucket_list.specs.Lists.{times}
use Rattle.es_pool.specs.Pool.{PoolState, DrawsFor, is_out, made_in, out_in, class_at, most_cut}
use Rattle.es_pool.specs.Account.{IsAccountOf}
use Rattle.lend_block.specs.Loan.{LentBytes}
use Rattle.buf_desc.specs.Slots.{slot_at, sealed_at, is_sealed, is_open, is_live, number_in, asked_in, HaveOwnNumbers}
use Rattle.buf_desc.specs.Desk.{Buffers, resealed, after_drop}
use Rattle.buf_desc.specs.declared.slot.Slot.{Slot}
use Rattle.bus_words.specs.Bus.{Item, Pipe, Buffer}
use Rattle.bus_words.specs.Pipes.{pipe_by}
use Rattle.bus_routes.specs.declared.tables.ItemRow.{ItemRow}
use Rattle.bus_routes.specs.Rows.{Row}
use Rattle.bus_routes.specs.Uses.{item_use, uses_of}
use Rattle.bus_messages.specs.declared.store.BusStore.TheInside.{Inside}
use Rattle.bus_messages.specs.Blocks.{IsGiven}
use Rattle.bus_messages.specs.Store.{Store, LastLoan, BufferDesc}
use Rattle.bus_words.specs.Held.{is_on_pipes, each_below}

-- What rows stand for. --

-- the item that a row's item stands for: its message are the bytes of the block
abbrev pub item_in : List Slot → ItemRow → Item
item_in slots item = record {
  number = item.number;
  asked = (sealed_at slots item.desc).asked;
  subscription = item.subscription;
  message = (sealed_at slots item.desc).bytes;
}

abbrev pub pipes_in : List Slot → List Row → List Pipe
pipes_in slots rows = map (pipe_by (item_in slots)) rows

-- the loan of an item's block
abbrev pub loan_at : List Slot → Option ItemRow → ℕ
loan_at slots None = 0
loan_at slots (Some item) = (sealed_at slots item.desc).loan

abbrev pub loan_in : List Slot → Row → LastLoan
loan_in slots row = record { pipe = row.number; loan = loan_at slots row.last }

-- the view that an item's block gives
abbrev pub view_in : List Slot → ItemRow → LentBytes
view_in slots item =
    record { loan = (sealed_at slots item.desc).loan; bytes = (sealed_at slots item.desc).bytes }

-- What lists of descriptors stand for. --

-- the unsent buffer that a block is
abbrev pub buffer_in : List Slot → ℕ → Buffer
buffer_in slots desc =
    record { number = number_in (slot_at slots desc); size = asked_in (slot_at slots desc) }

-- of each application, its unsent buffers
abbrev pub unsent_in : List Slot → List (List ℕ) → List (List Buffer)
unsent_in slots lists = map (map (buffer_in slots)) lists

abbrev pub desc_in : List Slot → ℕ → BufferDesc
desc_in slots desc = record { number = number_in (slot_at slots desc); desc = desc }

-- the descriptor of each unsent buffer
abbrev pub descs_in : List Slot → List (List ℕ) → List BufferDesc
descs_in slots lists = flat_map (map (desc_in slots)) lists

-- The pool. --

-- the account of a pool, counted anew
abbrev pub account_in : PoolState → Account
account_in pool = record {
  bytes = pool.bytes;
  sizes = pool.sizes;
  made = each_below (made_in pool.blocks) (length pool.sizes);
  out = each_below (out_in pool.blocks) (length pool.sizes);
  requests = pool.requests;
  errors = pool.errors;
}

-- a block for this size came back
abbrev pub returned : Account → ℕ → Account
returned account size = option_map_or (after_return account) (class_of size account.sizes) account

-- a block for this size was sent, and so many pipes took it; if none did, it came back
abbrev pub after_send : Account → ℕ → ℕ → Account
after_send account size reached = if nat_le 1 reached then account else returned account size

-- an item of a pipe was let go: if that was the last use of its send, the block came back
abbrev pub after_release : Account → Option Item → List Pipe → Account
after_release account None pipes = account
after_release account (Some item) pipes =
    if is_on_pipes pipes item.number then account else returned account item.asked

-- Blocks and items. --

-- true of each item of a pipe
pub record OfItems (P : ItemRow → Type 0) (row : Row) : Type 0 where
  pub queue : All P row.queue
  pub last : IfSome row.last P

-- true of each item of each pipe
abbrev pub AllItems : (ItemRow → Type 0) → List Row → Type 0
AllItems P rows = All (OfItems P) rows

-- an item's block was sealed for its send
pub record IsNamed (slots : List Slot) (item : ItemRow) : Type 0 where
  pub sealed : is_sealed (slot_at slots item.desc) ≡ true
  pub number : (sealed_at slots item.desc).number ≡ item.number

-- how many pipes received the send last
abbrev pub lasts_of : ℕ → List Row → ℕ
lasts_of number rows = sum_by (λ row. item_use number row.last) rows

-- The items name blocks that were sealed for them; each sealed block has so many uses and so many
-- views out as its send counts; each live one has a number of its own, one of those given, and the
-- size for what was asked.
pub record AreTied (buffers : Buffers) (rows : List Row) (uses_due views_due : ℕ → ℕ)
    (last : ℕ) : Type 0 where
  pub items : AllItems (IsNamed buffers.slots) rows
  pub uses : (desc : ℕ) → is_sealed (slot_at buffers.slots desc) ≡ true →
      (sealed_at buffers.slots desc).uses ≡ uses_due (sealed_at buffers.slots desc).number
  pub views : (desc : ℕ) → is_sealed (slot_at buffers.slots desc) ≡ true →
      (sealed_at buffers.slots desc).views ≡ views_due (sealed_at buffers.slots desc).number
  pub numbers : HaveOwnNumbers buffers.slots
  pub given : (desc : ℕ) → is_live (slot_at buffers.slots desc) ≡ true →
      IsGiven last (number_in (slot_at buffers.slots desc))
  pub sizes : (desc : ℕ) → is_live (slot_at buffers.slots desc) ≡ true →
      class_of (asked_in (slot_at buffers.slots desc)) buffers.pool.sizes ≡
      Some (class_at buffers.pool desc)
  pub account : IsAccountOf buffers.pool (account_in buffers.pool)

-- Each sealed block has a use: so many as the pipes name its send; and so many views are out as
-- pipes received it last.
pub record Backed (buffers : Buffers) (rows : List Row) (given : ℕ) : Type 0 where
  pub tied : AreTied buffers rows (λ n. uses_of n rows) (λ n. lasts_of n rows) given
  pub used : (desc : ℕ) → is_sealed (slot_at buffers.slots desc) ≡ true →
      1 ≤ (sealed_at buffers.slots desc).uses

-- the unsent blocks are those in the lists, each once
abbrev pub AreListed : List Slot → List (List ℕ) → Type 0
AreListed slots lists =
    (desc : ℕ) → times lists desc ≡ (if is_open (slot_at slots desc) then 1 else 0)

-- The store. --

abbrev pub store_of : Inside → Store
store_of a = record {
  pipes = pipes_in a.desk.slots a.tables.pipes;
  pipes_created = a.tables.pipes_created;
  subscriptions = a.tables.subscriptions;
  subscriptions_made = a.tables.subscriptions_made;
  routes = a.tables.routes;
  room = a.tables.room;
  missed = a.misses.items;
  unsent = unsent_in a.desk.slots a.lists.lists;
  numbers_given = a.given;
  account = account_in a.desk.pool;
  loans = map (loan_in a.desk.slots) a.tables.pipes;
  descs = descs_in a.desk.slots a.lists.lists;
}

pub record Keeps (a : Inside) : Type 0 where
  pub backed : Backed a.desk a.tables.pipes a.given
  pub listed : AreListed a.desk.slots a.lists.lists
  -- there is a place in the lists for each block that may be cut
  pub places : most_cut a.desk.pool ≡ a.lists.descs
  -- there is room for all that may miss a message
  pub misses : a.tables.room.dests ≤ a.misses.room
  -- numbers
  pub pipes_live : length a.tables.pipes ≤ a.tables.room.pipes
  pub pipes_few : a.tables.room.pipes ≤ 256
  pub subscriptions_live : length a.tables.subscriptions ≤ a.tables.subscriptions_made
  pub subscriptions_made : a.tables.subscriptions_made < 2 ^ 32

-- Messages that pipes dropped. --

-- how many of these items lie in the block
abbrev pub blocks_among : ℕ → List ItemRow → ℕ
blocks_among desc items = count_by (λ item. item.desc == desc) items

-- the blocks once a use was dropped for each of these items, one after the other
abbrev pub all_dropped : Buffers → List ItemRow → Buffers
all_dropped buffers [] = buffers
all_dropped buffers (item ∷ items) = all_dropped (after_drop buffers item.desc) items

-- each of these items has a use of its block, beside those of the views that are out
pub record AreLoose (buffers : Buffers) (items : List ItemRow) : Type 0 where
  pub sealed : All (λ item. is_sealed (slot_at buffers.slots item.desc) ≡ true) items
  pub used : (desc : ℕ) → is_sealed (slot_at buffers.slots desc) ≡ true →
      (sealed_at buffers.slots desc).views + blocks_among desc items ≤
      (sealed_at buffers.slots desc).uses

-- Steps. --

-- the live blocks are those that are out of the pool
abbrev pub OutAreLive : Buffers → Type 0
OutAreLive buffers =
    (desc : ℕ) → is_live (slot_at buffers.slots desc) ≡ is_out buffers.pool desc

-- a block was sealed for a send, with this message, no use and no view yet; the others stay
pub record Seals (old new : Buffers) (number asked : ℕ) (message : List ℕ) (desc : ℕ) : Type 0 where
  pub sealed : is_sealed (slot_at new.slots desc) ≡ true
  pub sent : sealed_at new.slots desc ≡
      record (sealed_at new.slots desc)
      { number = number; asked = asked; bytes = message; uses = 0; views = 0 }
  pub others : (other : ℕ) → (desc ≡ other → ⊥) → slot_at new.slots other ≡ slot_at old.slots other

-- a message's block was drawn, written and sealed, and is one more than before
pub record Adds (old new : Buffers) (number : ℕ) (message : List ℕ) (desc : ℕ) : Type 0 where
  pub fresh : is_live (slot_at old.slots desc) ≡ false
  pub drawn : DrawsFor old.pool new.pool (length message) desc
  pub seals : Seals old new number (length message) message desc
  pub numbers : HaveOwnNumbers old.slots →
      ((other : ℕ) → is_live (slot_at old.slots other) ≡ true →
      number_in (slot_at old.slots other) ≡ number → ⊥) → HaveOwnNumbers new.slots

-- a view of an item came back, and the use of its block that the item was
abbrev pub let_go : Buffers → Option ItemRow → Buffers
let_go buffers None = buffers
let_go buffers (Some item) =
    after_drop
    (resealed buffers item.desc
    (record (sealed_at buffers.slots item.desc)
    { views = (sealed_at buffers.slots item.desc).views - 1 })) item.desc

-- one more view of an item is out
abbrev pub shown : Buffers → Option ItemRow → Buffers
shown buffers None = buffers
shown buffers (Some item) =
    resealed buffers item.desc
    (record (sealed_at buffers.slots item.desc)
    { views = (sealed_at buffers.slots item.desc).views + 1 })
