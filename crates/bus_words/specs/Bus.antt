-- The state of the software bus (cFE Software Bus; packets by CCSDS 133.0-B, 4.1). Pipes keep
-- copies of the messages sent to them; nothing here is shared.
use Rattle.std.specs.Prelude.{◌≡◌, ℕ, ◌≤◌, All, ◌-◌, ◌==◌, ◌&&◌, not, Bool, true, false, List, [], ◌∷◌, length, filter, find, replicate, slice_set, slice_index_or, Option, is_some, if◌then◌else◌}
use Rattle.std.specs.List.{list_any, list_all}
use Rattle.std.specs.Option.{option_map_or}
use Rattle.fsw_base.specs.Limits.{Limits}
use Rattle.fsw_base.specs.EventDesk.{Desk, new_desk}
use Rattle.housekeeping.specs.Statistics.{Statistics, no_statistics}
use Rattle.fsw_base.specs.Grants.{Pools, IsNumbered}
pub use Rattle.bus_words.specs.Pipes.{PipeOf, Subscription, Offer, is_queued, is_oldest, all_bits, oldest, pipe_at, is_live, owns, pipe_named, is_named, with_pipe, without_pipe, new_pipe, ignores_own, after_receive, with_bits}
use Rattle.bus_words.specs.declared.miss.Miss.{Miss}
use Rattle.bus_words.specs.declared.verdict.Verdict.{Verdict}
use Rattle.bus_words.specs.Pipes as words

-- A message that is queued for one subscription: its send number, the size first asked for, the
-- subscription's number, its bytes.
pub record Item : Type 0 where
  pub number : ℕ
  pub asked : ℕ
  pub subscription : ℕ
  pub message : List ℕ

-- a pipe that queues messages
abbrev pub Pipe : Type 0
Pipe = PipeOf Item

-- What an application is doing.
pub data Standing : Type 0 where
  -- it makes calls
  Active : Standing
  -- it waits for a message on this pipe
  Waiting : ℕ → Standing
  -- it has ended
  Ended : Standing

-- A buffer that an application was given and hasn't sent yet: the number that it will be sent
-- under, and how many bytes were asked for.
pub record Buffer : Type 0 where
  pub number : ℕ
  pub size : ℕ

-- The bus: the live pipes and how many were created, the live subscriptions and how many were made,
-- each in order of number; the ids that have a route; of each application, from 1, the buffers that
-- it hasn't sent, the newest first; how many send numbers were given; the standing of each
-- application, from 1; the memory pools of applications; of the bus's own pool how many blocks of
-- each size were made, which is the greatest number that were ever out at once, and how many blocks
-- were drawn, told up to 2^32 - 1; the event desk; and the counters with the peaks of what was in
-- use.
pub record State : Type 0 where
  pub pipes : List Pipe
  pub pipes_created : ℕ
  pub subscriptions : List Subscription
  pub subscriptions_made : ℕ
  pub routed : List ℕ
  pub unsent : List (List Buffer)
  pub numbers_given : ℕ
  pub standings : List Standing
  pub pools : Pools
  pub made : List ℕ
  pub drawn : ℕ
  pub events : Desk
  pub statistics : Statistics

-- before the first call of so many applications
abbrev pub opening : Limits → ℕ → State
opening limits apps = record {
  pipes = [];
  pipes_created = 0;
  subscriptions = [];
  subscriptions_made = 0;
  routed = [];
  unsent = replicate apps [];
  numbers_given = 0;
  standings = replicate apps Active;
  pools = record { most = limits.apppool; sizes = limits.sizes; pools = [] };
  made = replicate (length limits.sizes) 0;
  drawn = 0;
  events = new_desk;
  statistics = no_statistics;
}

-- the memory pools of a bus after so many entries: they have the limits' block sizes, the grants
-- that are out of each stand in order of number, and each gave at most as many grants as there are
-- entries
pub record ArePools (limits : Limits) (entries : ℕ) (pools : Pools) : Type 0 where
  pub most : pools.most ≡ limits.apppool
  pub sizes : pools.sizes ≡ limits.sizes
  pub few : length pools.pools ≤ 8
  pub numbered : All IsNumbered pools.pools
  pub given : All (λ pool. pool.given ≤ entries) pools.pools

-- the standing of an application; one that the bus doesn't know has ended
abbrev pub standing_of : State → ℕ → Standing
standing_of s app = if app == 0 then Ended else slice_index_or s.standings (app - 1) Ended

-- the live subscriptions of an id, by rising number
abbrev pub route : List Subscription → ℕ → List Subscription
route subscriptions id = filter (λ sub. sub.id == id) subscriptions

-- whether the pipe is subscribed to the id
abbrev pub is_subscribed : List Subscription → ℕ → ℕ → Bool
is_subscribed subscriptions id pipe =
    list_any (λ sub. sub.id == id && sub.pipe == pipe) subscriptions

-- whether the id has a route
abbrev pub has_route : List ℕ → ℕ → Bool
has_route routed id = list_any (λ other. other == id) routed

-- the buffers that an application hasn't sent
abbrev pub unsent_of : List (List Buffer) → ℕ → List Buffer
unsent_of unsent app = slice_index_or unsent (app - 1) []

-- the unsent buffer of this number, if it is the application's
abbrev pub unsent_at : List (List Buffer) → ℕ → ℕ → Option Buffer
unsent_at unsent app number = find (λ buffer. buffer.number == number) (unsent_of unsent app)

-- whether the application has an unsent buffer of this number
abbrev pub has_unsent : List (List Buffer) → ℕ → ℕ → Bool
has_unsent unsent app number = is_some (unsent_at unsent app number)

-- its size; 0 if the application has no such buffer
abbrev pub unsent_size : List (List Buffer) → ℕ → ℕ → ℕ
unsent_size unsent app number =
    option_map_or (λ buffer. buffer.size) (unsent_at unsent app number) 0

-- the buffers, with one more that the application was given
abbrev pub with_unsent : List (List Buffer) → ℕ → Buffer → List (List Buffer)
with_unsent unsent app buffer = slice_set unsent (app - 1) (buffer ∷ unsent_of unsent app)

-- the buffers, without the application's of this number
abbrev pub without_unsent : List (List Buffer) → ℕ → ℕ → List (List Buffer)
without_unsent unsent app number =
    slice_set unsent (app - 1)
    (filter (λ buffer. not (buffer.number == number)) (unsent_of unsent app))

-- the buffers, without all of the application's
abbrev pub without_all_unsent : List (List Buffer) → ℕ → List (List Buffer)
without_all_unsent unsent app = slice_set unsent (app - 1) []

-- What is sent: who sends it, its number, the size first asked for, and the message.
pub record Sending : Type 0 where
  pub sender : ℕ
  pub number : ℕ
  pub asked : ℕ
  pub message : List ℕ

-- a send of an application, of which nothing else is said: no verdict looks at a number, a size or
-- bytes
abbrev pub any_send : ℕ → Sending
any_send app = record { sender = app; number = 0; asked = 0; message = [] }

-- the item that a subscription queues
abbrev pub item_for : Sending → Subscription → Item
item_for sending sub =
    record {
      number = sending.number;
      asked = sending.asked;
      subscription = sub.number;
      message = sending.message;
    }

-- what is sent, as pipes are offered it
abbrev pub offer_of : Sending → Offer Item
offer_of sending =
    record {
      sender = sending.sender;
      subscription_of = λ item. item.subscription;
      item_for = item_for sending;
    }

-- how many messages of a subscription are queued in the pipe
abbrev pub waiting_of : Pipe → ℕ → ℕ
waiting_of pipe subscription = words.waiting_of (λ item. item.subscription) pipe subscription

-- the verdict on a message of this sender for the subscription
abbrev pub verdict : Pipe → Subscription → ℕ → Verdict
verdict pipe sub sender = words.verdict (λ item. item.subscription) pipe sub sender

-- the pipe once a subscription of its own was offered what is sent
abbrev pub offered : Sending → Subscription → Pipe → Pipe
offered sending sub pipe = words.offered (offer_of sending) sub pipe

-- the pipes once each of these subscriptions was offered what is sent, in order
abbrev pub deliver : Sending → List Subscription → List Pipe → List Pipe
deliver sending subs pipes = words.deliver (offer_of sending) subs pipes

-- how many of these subscriptions have the verdict In or Oldest, each as its turn comes
abbrev pub reached : Sending → List Subscription → List Pipe → ℕ
reached sending subs pipes = words.reached (offer_of sending) subs pipes

-- how many of them have the verdict Oldest
abbrev pub drops : Sending → List Subscription → List Pipe → ℕ
drops sending subs pipes = words.drops (offer_of sending) subs pipes

-- the pipes that miss what is sent, or their oldest message, with the cause of each, in order of
-- these subscriptions
abbrev pub missed : Sending → List Subscription → List Pipe → List Miss
missed sending subs pipes = words.misses_of (offer_of sending) subs pipes

-- whether no message is queued on the pipe of this number
abbrev pub is_empty : List Pipe → ℕ → Bool
is_empty pipes number = option_map_or (λ pipe. length pipe.queue == 0) (pipe_at pipes number) true

-- whether an application in this standing makes no further send by itself: it has ended, or waits
-- on an empty pipe
abbrev pub is_idle : List Pipe → Standing → Bool
is_idle pipes Active = false
is_idle pipes (Waiting pipe) = is_empty pipes pipe
is_idle pipes Ended = true

-- whether every application but this one has ended or waits on an empty pipe
abbrev pub others_idle : State → ℕ → Bool
others_idle s app = list_all (is_idle s.pipes) (slice_set s.standings (app - 1) Ended)

-- whether an application in this standing has ended
abbrev pub has_ended : Standing → Bool
has_ended Active = false
has_ended (Waiting pipe) = false
has_ended Ended = true

-- the bus, with this application's standing changed
abbrev pub with_standing : State → ℕ → Standing → State
with_standing s app standing = record s { standings = slice_set s.standings (app - 1) standing }

-- the pipe that an application in this standing waits on; 0, which no pipe has, if it doesn't
-- wait
abbrev pub waited_on : Standing → ℕ
waited_on Active = 0
waited_on (Waiting pipe) = pipe
waited_on Ended = 0
