-- The tables as their user sees them.
use Rattle.std.specs.Prelude.{ℕ, List, []}
use Rattle.fsw_base.specs.Limits.{Limits}
use Rattle.bus_words.specs.Bus.{Subscription}
use Rattle.bus_routes.specs.Rows.{Row, RouteRow}

-- How many pipes may be live and their greatest depth; how many ids may have a route, and how many
-- subscriptions each; and the counts at which ids start.
pub record Room : Type 0 where
  pub pipes : ℕ
  pub depth : ℕ
  pub msgids : ℕ
  pub dests : ℕ
  pub starts : List (ℕ × ℕ)

-- The live pipes and how many were created, the live subscriptions and how many were made, each in
-- order of number; and the routes in order of making.
pub record Tables : Type 0 where
  pub pipes : List Row
  pub pipes_created : ℕ
  pub subscriptions : List Subscription
  pub subscriptions_made : ℕ
  pub routes : List RouteRow
  pub room : Room

-- the room that these limits give
abbrev pub room_for : Limits → Room
room_for limits = record {
  pipes = limits.pipes;
  depth = limits.depth;
  msgids = limits.msgids;
  dests = limits.dests;
  starts = limits.starts;
}

-- nothing was created yet
abbrev pub opened : Limits → Tables
opened limits =
    record {
      pipes = [];
      pipes_created = 0;
      subscriptions = [];
      subscriptions_made = 0;
      routes = [];
      room = room_for limits;
    }
