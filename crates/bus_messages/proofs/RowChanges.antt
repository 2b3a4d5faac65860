-- What changes of the rows mean for the pipes that they stand for.
use Rattle.std.proofs.Common.{◌≡◌, ℕ, List, [], ◌∷◌, map, Option, Some, None, refl, ap, ◌∙◌}
use Rattle.std.specs.List.{All}
use Rattle.std.specs.Option.{IfSome, option_map}
use Rattle.std.proofs.lemmas.List.Elements.{All-head, All-tail}
use Rattle.buf_desc.specs.declared.slot.Slot.{Slot}
use Rattle.bus_words.specs.Bus.{Item, Subscription, Sending, item_for, deliver, reached, drops, missed}
use Rattle.bus_words.specs.Bus as bus
use Rattle.bus_words.specs.Pipes.{pipe_by}
use Rattle.bus_words.proofs.PipeItems.{IsOffer, deliver-map, reached-map, drops-map}
use Rattle.bus_routes.specs.declared.message.Message.{Message}
use Rattle.bus_routes.specs.declared.tables.ItemRow.{ItemRow}
use Rattle.bus_routes.specs.Rows.{Row, offer_of, deliver_rows, reached_rows, drops_rows, missed_rows}
use Rattle.bus_words.proofs.MissedItems.{misses_of-map}
use Rattle.bus_messages.specs.Inside.{item_in, OfItems, AllItems}

-- a change of what the items of a pipe are read as changes nothing if they are read alike
queue_alike : (read other : ItemRow → Item) (queue : List ItemRow) → All (λ i. read i ≡ other i) queue → map read queue ≡ map other queue
queue_alike read other [] same = refl
queue_alike read other (i ∷ queue) same =
    ap (λ x. x ∷ map read queue) (All-head (λ j. read j ≡ other j) i queue same)
    ∙ ap (λ l. other i ∷ l) (queue_alike read other queue (All-tail (λ j. read j ≡ other j) i queue same))

last_alike : (read other : ItemRow → Item) (o : Option ItemRow) → IfSome o (λ i. read i ≡ other i) → option_map read o ≡ option_map other o
last_alike read other None same = refl
last_alike read other (Some i) same = ap Some same

pub pipes_alike : (read other : ItemRow → Item) (rows : List Row) → AllItems (λ i. read i ≡ other i) rows → map (pipe_by read) rows ≡ map (pipe_by other) rows
pipes_alike read other [] same = refl
pipes_alike read other (row ∷ rows) same =
    let one = All-head (OfItems (λ i. read i ≡ other i)) row rows same in
    ap (λ q. record (pipe_by read row) { queue = q } ∷ map (pipe_by read) rows) (queue_alike read other row.queue one.queue)
    ∙ ap (λ l. record (pipe_by other row) { last = l } ∷ map (pipe_by read) rows) (last_alike read other row.last one.last)
    ∙ ap (λ l. pipe_by other row ∷ l) (pipes_alike read other rows (All-tail (OfItems (λ i. read i ≡ other i)) row rows same))

-- Delivery. --

-- the item of a row is the item that its subscription queues
pub record IsSending (slots : List Slot) (sending : Sending) (desc : ℕ) : Type 0 where
  pub item : (sub : Subscription) → item_in slots (record { number = sending.number; desc = desc; subscription = sub.number }) ≡ item_for sending sub

-- what the tables are told of it
abbrev pub message_of : Sending → ℕ → Message
message_of sending desc = record { sender = sending.sender; number = sending.number; desc = desc }

module _ (slots : List Slot) (sending : Sending) (desc : ℕ) (is : IsSending slots sending desc) where
  -- the rows are offered what the pipes are
  same : IsOffer (item_in slots) (offer_of (message_of sending desc)) (bus.offer_of sending)
  same = record { sender = refl; subscription = λ item. refl; item = is.item }

  pub deliver-rows : (subs : List Subscription) (rows : List Row) →
      map (pipe_by (item_in slots)) (deliver_rows (message_of sending desc) subs rows) ≡ deliver sending subs (map (pipe_by (item_in slots)) rows)
  deliver-rows subs rows = deliver-map (item_in slots) (offer_of (message_of sending desc)) (bus.offer_of sending) same subs rows

  pub reached-rows : (subs : List Subscription) (rows : List Row) →
      reached_rows (message_of sending desc) subs rows ≡ reached sending subs (map (pipe_by (item_in slots)) rows)
  reached-rows subs rows = reached-map (item_in slots) (offer_of (message_of sending desc)) (bus.offer_of sending) same subs rows

  pub drops-rows : (subs : List Subscription) (rows : List Row) →
      drops_rows (message_of sending desc) subs rows ≡ drops sending subs (map (pipe_by (item_in slots)) rows)
  drops-rows subs rows = drops-map (item_in slots) (offer_of (message_of sending desc)) (bus.offer_of sending) same subs rows

  pub missed-rows : (subs : List Subscription) (rows : List Row) →
      missed_rows (message_of sending desc) subs rows ≡ missed sending subs (map (pipe_by (item_in slots)) rows)
  missed-rows subs rows = misses_of-map (item_in slots) (offer_of (message_of sending desc)) (bus.offer_of sending) same subs rows
