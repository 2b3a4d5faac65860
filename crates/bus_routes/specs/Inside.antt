-- How the three tables belong together: what waits on the pipes is counted at its subscriptions,
-- and the destinations of an id are its subscriptions.
use Rattle.std.specs.Prelude.{◌≡◌, ℕ, ◌*◌, ◌≤◌, ◌==◌, ◌&&◌, Bool, true, List, [], map, filter, find, count_by, Option, Some, is_some}
use Rattle.std.specs.List.{All}
use Rattle.std.specs.Option.{option_map, option_map_or}
use Rattle.bus_words.specs.Bus.{Subscription}
use Rattle.pipe_queue.specs.declared.item.Item.{Item}
use Rattle.bus_words.specs.Pipes.{PipeOf, pipe_at, waiting_of, pipe_by}
use Rattle.pipe_table.specs.Table.{Pipes, place_of}
use Rattle.routing.specs.Routing.{Route, Routing, route_of, dests_at}
use Rattle.subscriptions.specs.Subs as subs
use Rattle.subscriptions.specs.declared.words.SubNo.{SubNo}
use Rattle.bus_routes.specs.declared.tables.ItemRow.{ItemRow}
use Rattle.bus_routes.specs.Rows.{Row, RouteRow}
use Rattle.bus_routes.specs.Tables.{Tables}

-- What the tables stand for. --

abbrev pub item_in : Item → ItemRow
item_in item = record { number = item.number; desc = item.desc; subscription = item.sub.number }

abbrev pub row_in : PipeOf Item → Row
row_in pipe = pipe_by item_in pipe

abbrev pub sub_in : subs.LiveSubscription → Subscription
sub_in s = record { number = s.number; id = s.id; pipe = s.pipe; limit = s.limit; scope = s.scope }

abbrev pub way_in : Route → RouteRow
way_in route = record { id = route.id; counted = route.counted }

abbrev pub tables_in : Pipes → subs.Subscribed → Routing → Tables
tables_in pipes subscribed routing = record {
  pipes = map row_in pipes.live;
  pipes_created = pipes.created;
  subscriptions = map sub_in subscribed.live;
  subscriptions_made = subscribed.made;
  routes = map way_in routing.routes;
  room = record {
    pipes = pipes.room;
    depth = pipes.depth;
    msgids = routing.msgids;
    dests = routing.dests;
    starts = routing.starts;
  };
}

-- Pipes and subscriptions. --

-- how many items of a subscription wait on a pipe
abbrev pub waiting_at : PipeOf Item → ℕ → ℕ
waiting_at row number = waiting_of (λ item. item.sub.number) row number

-- a subscription's pipe is live, and as many of its messages wait there as it counts
abbrev pub IsCounted : List (PipeOf Item) → subs.LiveSubscription → Type 0
IsCounted rows s =
    option_map (λ row. waiting_at row s.number) (pipe_at rows s.pipe) ≡ Some s.waiting

-- a subscription is the item's, if it has the item's number: in that slot, and of this pipe
abbrev pub IsOf : ℕ → Item → subs.LiveSubscription → Type 0
IsOf pipe item s = s.number ≡ item.sub.number → (s.slot ≡ item.sub.slot) × (s.pipe ≡ pipe)

-- an item on a pipe is of a subscription that was made, and if that one lives it is the pipe's
pub record IsQueued (subscribed : subs.Subscribed) (pipe : ℕ) (item : Item) : Type 0 where
  pub made : item.sub.number ≤ subscribed.made
  pub own : All (IsOf pipe item) subscribed.live

-- what waits is counted
pub record AreQueued (rows : List (PipeOf Item)) (subscribed : subs.Subscribed) : Type 0 where
  pub counted : All (IsCounted rows) subscribed.live
  pub items : All (λ row. All (IsQueued subscribed row.number) row.queue) rows

-- a subscription knows where its pipe lies
abbrev pub IsPlaced : List (ℕ × ℕ) → subs.LiveSubscription → Type 0
IsPlaced places s = place_of places s.pipe ≡ Some s.place

-- each pipe lies if its subscriptions say
abbrev pub ArePlaced : List (ℕ × ℕ) → subs.Subscribed → Type 0
ArePlaced places subscribed = All (IsPlaced places) subscribed.live

-- Subscriptions and routes. --

-- whether a live subscription ties this id to this pipe
abbrev pub ties : ℕ → ℕ → subs.LiveSubscription → Bool
ties id pipe s = s.id == id && s.pipe == pipe

-- the first live subscription that ties this id to this pipe
abbrev pub first_of : subs.Subscribed → ℕ → ℕ → Option SubNo
first_of subscribed id pipe = option_map subs.number_of (find (ties id pipe) subscribed.live)

-- the live subscriptions of an id, in order of number
abbrev pub of_id : ℕ → subs.Subscribed → List subs.LiveSubscription
of_id id subscribed = filter (λ s. s.id == id) subscribed.live

-- each id's destinations are its live subscriptions, each live one has a route, and no two tie the
-- same id to the same pipe
pub record AreRouted (subscribed : subs.Subscribed) (routing : Routing) : Type 0 where
  pub dests : (id route : ℕ) → route_of routing.routes id ≡ Some route →
      map (λ dest. dest.1) (dests_at routing route) ≡ map subs.number_of (of_id id subscribed)
  pub ways : All (λ s. is_some (route_of routing.routes s.id) ≡ true) subscribed.live
  pub once : (id pipe : ℕ) → count_by (ties id pipe) subscribed.live ≤ 1

-- what is always true of the three
pub record AreTied (pipes : Pipes) (subscribed : subs.Subscribed) (routing : Routing) : Type 0 where
  pub queued : AreQueued pipes.live subscribed
  pub placed : ArePlaced pipes.places subscribed
  pub routed : AreRouted subscribed routing
  -- there is room for the subscriptions of as many routes as there may be
  pub room : subscribed.room ≡ routing.msgids * routing.dests

-- What a change leaves. --

-- a subscription but for how many of its messages wait
abbrev pub uncounted : subs.LiveSubscription → subs.LiveSubscription
uncounted s = record s { waiting = 0 }

-- the subscriptions but for how many of their messages wait
abbrev pub still : subs.Subscribed → subs.Subscribed
still subscribed = record subscribed { live = map uncounted subscribed.live }

-- the subscriptions once one message fewer of the item's waits; as they are, if there is no item
abbrev pub fewer_by : Option Item → subs.Subscribed → subs.Subscribed
fewer_by item subscribed =
    option_map_or (λ i. subs.with_change subscribed i.sub subs.one_fewer) item subscribed

-- a table of pipes but for the pipes themselves: where they lie, how many were created, the room
-- and the greatest depth
abbrev pub frame : Pipes → Pipes
frame pipes = record pipes { live = [] }

-- the routes but for their destinations
abbrev pub ways_of : Routing → List RouteRow
ways_of routing = map way_in routing.routes
