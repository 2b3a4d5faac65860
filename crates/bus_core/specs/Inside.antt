-- What contracts see of the core's fields, and what is always true of them.
use Rattle.std.specs.Prelude.{◌≡◌, ℕ, true, length, map, None, List, All}
use Rattle.fsw_base.specs.Limits.{Limits, limits_of}
use Rattle.fsw_base.specs.PoolAccounts.{Account}
use Rattle.housekeeping.specs.Peaks.{greater}
use Rattle.bus_words.specs.Acts.{Whole}
use Rattle.bus_words.specs.Bus.{Pipe, owns}
use Rattle.bus_words.specs.Held.{in_use}
use Rattle.bus_routes.specs.Rows.{ids_of, has_way}
use Rattle.bus_routes.specs.Tables.{room_for}
use Rattle.bus_messages.specs.Store.{Store}
use Rattle.bus_words.specs.Pipes.{last_on}
use Rattle.bus_messages.specs.Words.{nexts_in}
use Rattle.bus_core.specs.declared.activities.Activity.{Activity}
use Rattle.bus_core.specs.declared.activities.Activity.TheVariants as activities
use Rattle.bus_core.specs.declared.plain.PlainBus.TheInside.{Inside}
use Rattle.bus_core.specs.Core.{Plain}
use Rattle.bus_core.specs.Rows.{standing_in, activity_at, AreOnce}

-- the state that the fields keep
abbrev pub means : Inside → Whole
means a = record {
  bus = record {
    pipes = a.store.pipes;
    pipes_created = a.store.pipes_created;
    subscriptions = a.store.subscriptions;
    subscriptions_made = a.store.subscriptions_made;
    routed = ids_of a.store.routes;
    unsent = a.store.unsent;
    numbers_given = a.store.numbers_given;
    standings = map standing_in a.activities.items;
    pools = a.pools;
    made = a.store.account.made;
    drawn = a.store.account.requests;
    events = a.records.events;
    statistics = a.records.statistics;
  };
  nexts = nexts_in a.store;
}

-- the core as its callers see it
abbrev pub plain_of : Inside → Plain
plain_of a =
    record {
      limits = limits_of a.config;
      whole = means a;
      loans = a.store.loans;
      descs = a.store.descs;
    }

-- the pool has the limits' bytes and block sizes, and no return was refused
pub record IsPoolOf (limits : Limits) (account : Account) : Type 0 where
  pub bytes : account.bytes ≡ limits.pool
  pub sizes : account.sizes ≡ limits.sizes
  pub errors : account.errors ≡ 0

-- a pipe is the application's, and has no last message
pub record IsReady (pipes : List Pipe) (app pipe : ℕ) : Type 0 where
  pub own : owns pipes app pipe ≡ true
  pub none : last_on pipes pipe ≡ None

-- each application that waits does so on a pipe of its own, whose last message it let go before
abbrev pub AreReady : List Pipe → List Activity → Type 0
AreReady pipes acts =
    (app pipe : ℕ) → activity_at acts app ≡ activities.Waiting pipe → IsReady pipes app pipe

-- the store and what the applications do belong together, and are within the limits
pub record IsInOrder (limits : Limits) (store : Store) (acts : List Activity) : Type 0 where
  -- the store has the room that the limits ask for
  pub room : store.room ≡ room_for limits
  pub pool : IsPoolOf limits store.account
  -- the id of each subscription has a route
  pub ways : All (λ sub. has_way store.routes sub.id ≡ true) store.subscriptions
  -- each id has one route at most
  pub once : AreOnce store.routes
  pub ready : AreReady store.pipes acts
  -- each application has its unsent buffers
  pub places : length store.unsent ≡ length acts

abbrev pub AreInOrder : Inside → Type 0
AreInOrder a = IsInOrder (limits_of a.config) a.store a.activities.items

-- nothing in use is above its peak
abbrev pub IsCovered : Plain → Type 0
IsCovered core =
    greater core.whole.bus.statistics.peak (in_use core.limits core.whole.bus) ≡
    core.whole.bus.statistics.peak

pub record Keeps (a : Inside) : Type 0 where
  pub order : AreInOrder a
  pub covered : IsCovered (plain_of a)
