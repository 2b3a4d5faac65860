-- The pipes, subscriptions and routes of a software bus as lists, and what becomes of a message on
-- its way to the pipes.
use Rattle.std.specs.Prelude.{ℕ, ◌+◌, ◌%◌, ◌==◌, Bool, List, [], ◌∷◌, ◌++◌, map, find, Option, Some, None, if◌then◌else◌}
use Rattle.std.specs.List.{list_any}
use Rattle.std.specs.Option.{option_map_or}
use Rattle.bus_words.specs.Pipes.{PipeOf, Subscription, Offer, is_queued, owns, last_on}
use Rattle.bus_words.specs.Pipes as words
use Rattle.bus_words.specs.declared.verdict.Verdict.{Verdict}
use Rattle.bus_routes.specs.declared.message.Message.{Message}
use Rattle.bus_routes.specs.declared.tables.ItemRow.{ItemRow}
use Rattle.bus_words.specs.declared.miss.Miss.{Miss}
use Rattle.bus_routes.specs.Missed.{drops_by, dropped_of}

-- Pipes. --

-- a pipe that queues items as the tables keep them
abbrev pub Row : Type 0
Row = PipeOf ItemRow

-- the item received last from the pipe of this number, for the pipe's owner alone
abbrev pub last_row_item : List Row → ℕ → ℕ → Option ItemRow
last_row_item rows app number = if owns rows app number then last_on rows number else None

-- the item that a message is on the subscription's pipe
abbrev pub item_of : Message → Subscription → ItemRow
item_of message sub =
    record { number = message.number; desc = message.desc; subscription = sub.number }

-- a message, as pipes are offered it
abbrev pub offer_of : Message → Offer ItemRow
offer_of message =
    record {
      sender = message.sender;
      subscription_of = λ item. item.subscription;
      item_for = item_of message;
    }

-- the verdict on a message of this sender for the subscription
abbrev pub verdict_on : Row → Subscription → ℕ → Verdict
verdict_on row sub sender = words.verdict (λ item. item.subscription) row sub sender

-- the row once it was offered a message for the subscription
abbrev pub offered_row : Message → Subscription → Row → Row
offered_row message sub row = words.offered (offer_of message) sub row

-- 1 if the subscription's pipe takes the message
abbrev pub row_takes : Message → Subscription → List Row → ℕ
row_takes message sub rows = words.counted_by is_queued (offer_of message) sub rows

-- the rows once each subscription was offered the message, in order
abbrev pub deliver_rows : Message → List Subscription → List Row → List Row
deliver_rows message subs rows = words.deliver (offer_of message) subs rows

-- how many of the subscriptions' pipes take the message, each as its turn comes
abbrev pub reached_rows : Message → List Subscription → List Row → ℕ
reached_rows message subs rows = words.reached (offer_of message) subs rows

-- how many of them drop their oldest item for it
abbrev pub drops_rows : Message → List Subscription → List Row → ℕ
drops_rows message subs rows = words.drops (offer_of message) subs rows

-- Misses. --

-- the subscription's pipe and why a message is missed there for this one, if one is
abbrev pub row_misses : Message → Subscription → List Row → List Miss
row_misses message sub rows = words.misses_by (offer_of message) sub rows

-- these pipes, in the order of the subscriptions, each as its turn comes
abbrev pub missed_rows : Message → List Subscription → List Row → List Miss
missed_rows message subs rows = words.misses_of (offer_of message) subs rows

-- the item that leaves the subscription's pipe for the message, if one does
abbrev pub row_drops : Message → Subscription → List Row → List ItemRow
row_drops message sub rows = drops_by (offer_of message) sub rows

-- the items that leave, in the order of the subscriptions, each as its turn comes
abbrev pub dropped_rows : Message → List Subscription → List Row → List ItemRow
dropped_rows message subs rows = dropped_of (offer_of message) subs rows

-- Routes. --

-- A message id with a route, and how many counts it has given, modulo 16384 (CCSDS 133.0-B,
-- 4.1.3.4.3).
pub record RouteRow : Type 0 where
  pub id : ℕ
  pub counted : ℕ

-- the ids that have a route
abbrev pub ids_of : List RouteRow → List ℕ
ids_of routes = map (λ route. route.id) routes

-- whether the id has a route
abbrev pub has_way : List RouteRow → ℕ → Bool
has_way routes id = list_any (λ route. route.id == id) routes

-- the place of the id's route, if places are numbered on from this one
abbrev pub way_from : ℕ → List RouteRow → ℕ → Option ℕ
way_from place [] id = None
way_from place (route ∷ routes) id =
    if route.id == id then Some place else way_from (place + 1) routes id

-- the place of the id's route among the routes
abbrev pub way_of : List RouteRow → ℕ → Option ℕ
way_of routes id = way_from 0 routes id

-- how many counts the id has given, modulo 16384, as its route says it
abbrev pub counted_in : List RouteRow → ℕ → ℕ
counted_in routes id =
    option_map_or (λ route. route.counted) (find (λ route. route.id == id) routes) 0

-- the routes once the id's has given a count more
abbrev pub counted_on : List RouteRow → ℕ → List RouteRow
counted_on [] id = []
counted_on (route ∷ routes) id =
    if route.id == id then record route { counted = (route.counted + 1) % 16384 } ∷ routes
    else route ∷ counted_on routes id

-- the routes with one for the id
abbrev pub with_route : List RouteRow → ℕ → List RouteRow
with_route routes id =
    if has_way routes id then routes else routes ++ record { id = id; counted = 0 } ∷ []
