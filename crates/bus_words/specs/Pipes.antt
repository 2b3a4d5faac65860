-- Pipes of the software bus (cFE Software Bus), whatever they queue: an item may be of any kind
-- that tells its subscription. What becomes of a message that pipes are offered, and what a receive
-- leaves, is said here alone.
use Rattle.std.specs.Prelude.{ℕ, ◌+◌, ◌/◌, ◌%◌, ◌<◌, ◌==◌, ◌&&◌, not, nat_le, nat_lt, Bool, true, false, List, [], ◌∷◌, ◌++◌, length, drop, map, filter, find, count_by, Option, Some, None, if◌then◌else◌}
use Rattle.std.specs.List.{list_any}
use Rattle.std.specs.Option.{option_map, option_map_or, option_and_then}
use Rattle.std.specs.Str.{bytes_eq}
use Rattle.fsw_base.specs.declared.config.Scope.{Scope}
use Rattle.bus_words.specs.declared.miss.Miss.{Miss}
use Rattle.bus_words.specs.declared.miss.MissCause.{MissCause}
use Rattle.bus_words.specs.declared.miss.MissCause.TheVariants as causes
use Rattle.bus_words.specs.declared.verdict.Verdict.{Verdict}
use Rattle.bus_words.specs.declared.verdict.Verdict.TheVariants.{Skip, OverLimit, In, Oldest, Full}

-- A pipe: number, name, owner, how many messages it may hold (its depth), option bits, what it
-- queues, oldest first, and the item received last.
pub record PipeOf (item : Type 0) : Type 0 where
  pub number : ℕ
  pub name : List ℕ
  pub owner : ℕ
  pub depth : ℕ
  pub bits : ℕ
  pub queue : List item
  pub last : Option item

-- A subscription: its number, message id and pipe, how many of its messages may be queued at once,
-- and its scope.
pub record Subscription : Type 0 where
  pub number : ℕ
  pub id : ℕ
  pub pipe : ℕ
  pub limit : ℕ
  pub scope : Scope

-- A message that pipes are offered: who sends it, which subscription an item is of, and the item
-- that a subscription's pipe queues for it.
pub record Offer (item : Type 0) : Type 0 where
  pub sender : ℕ
  pub subscription_of : item → ℕ
  pub item_for : Subscription → item

-- whether the message is queued
abbrev pub is_queued : Verdict → Bool
is_queued Skip = false
is_queued OverLimit = false
is_queued In = true
is_queued Oldest = true
is_queued Full = false

-- whether the message that waits longest leaves for it
abbrev pub is_oldest : Verdict → Bool
is_oldest Skip = false
is_oldest OverLimit = false
is_oldest In = false
is_oldest Oldest = true
is_oldest Full = false

-- why a message is missed at a pipe: the one sent, or the oldest one that the pipe drops for it;
-- none if the pipe takes it and drops none, or ignores its sender
abbrev pub cause_of : Verdict → Option MissCause
cause_of Skip = None
cause_of OverLimit = Some causes.OverLimit
cause_of In = None
cause_of Oldest = Some causes.Oldest
cause_of Full = Some causes.Full

-- the option bits that a version has, added up: 0x01 in version 1, 0x01 and 0x02 in version 2
abbrev pub all_bits : ℕ → ℕ
all_bits version = if version == 2 then 3 else 1

-- the oldest item that is queued
abbrev pub oldest : {item : Type 0} → List item → Option item
oldest [] = None
oldest (item ∷ items) = Some item

module _ {item : Type 0} where
  -- Lists of pipes. --

  -- the live pipe of this number
  abbrev pub pipe_at : List (PipeOf item) → ℕ → Option (PipeOf item)
  pipe_at pipes number = find (λ pipe. pipe.number == number) pipes

  -- whether a pipe of this number is live
  abbrev pub is_live : List (PipeOf item) → ℕ → Bool
  is_live pipes number = list_any (λ pipe. pipe.number == number) pipes

  -- whether a pipe of this number is live and this application's
  abbrev pub owns : List (PipeOf item) → ℕ → ℕ → Bool
  owns pipes app number = list_any (λ pipe. pipe.number == number && pipe.owner == app) pipes

  -- the live pipe of this name
  abbrev pub pipe_named : List (PipeOf item) → List ℕ → Option (PipeOf item)
  pipe_named pipes name = find (λ pipe. bytes_eq pipe.name name) pipes

  -- whether a live pipe has this name
  abbrev pub is_named : List (PipeOf item) → List ℕ → Bool
  is_named pipes name = list_any (λ pipe. bytes_eq pipe.name name) pipes

  -- the pipes, with the one of this number changed
  abbrev pub with_pipe : (PipeOf item → PipeOf item) → ℕ → List (PipeOf item) → List (PipeOf item)
  with_pipe change number pipes =
      map (λ pipe. if pipe.number == number then change pipe else pipe) pipes

  -- the pipes but the one of this number
  abbrev pub without_pipe : ℕ → List (PipeOf item) → List (PipeOf item)
  without_pipe number pipes = filter (λ pipe. not (pipe.number == number)) pipes

  -- the first pipe of this owner
  abbrev pub first_owned : List (PipeOf item) → ℕ → Option (PipeOf item)
  first_owned pipes app = find (λ pipe. pipe.owner == app) pipes

  -- the item that waits longest on the pipe of this number
  abbrev pub oldest_on : List (PipeOf item) → ℕ → Option item
  oldest_on pipes number = option_and_then (λ pipe. oldest pipe.queue) (pipe_at pipes number)

  -- the item received last from the pipe of this number
  abbrev pub last_on : List (PipeOf item) → ℕ → Option item
  last_on pipes number = option_and_then (λ pipe. pipe.last) (pipe_at pipes number)

  -- the pipes' numbers rise, all of them above this one
  abbrev pub IsRising : ℕ → List (PipeOf item) → Type 0
  IsRising below [] = Unit {0}
  IsRising below (pipe ∷ pipes) = (below < pipe.number) × IsRising pipe.number pipes

  -- Changes of a pipe. --

  -- a pipe on which nothing waits
  abbrev pub new_pipe : ℕ → List ℕ → ℕ → ℕ → PipeOf item
  new_pipe number name owner depth =
      record {
        number = number;
        name = name;
        owner = owner;
        depth = depth;
        bits = 0;
        queue = [];
        last = None;
      }

  -- the pipe with these option bits
  abbrev pub with_bits : ℕ → PipeOf item → PipeOf item
  with_bits bits pipe = record pipe { bits = bits }

  -- the pipe after a receive: its last item is released, and the oldest that is queued, if any,
  -- takes its place
  abbrev pub after_receive : PipeOf item → PipeOf item
  after_receive pipe = record pipe { queue = drop 1 pipe.queue; last = oldest pipe.queue }

  -- the pipe without the item that waits longest
  abbrev pub without_front : PipeOf item → PipeOf item
  without_front pipe = record pipe { queue = drop 1 pipe.queue }

  -- the pipe without the item received last
  abbrev pub without_last : PipeOf item → PipeOf item
  without_last pipe = record pipe { last = None }

  -- What becomes of a message. --

  -- option bit 0x01: messages that the pipe's owner sends are not for it
  abbrev pub ignores_own : PipeOf item → Bool
  ignores_own pipe = pipe.bits % 2 == 1

  -- whether the pipe ignores what this application sends
  abbrev pub ignores_sender : PipeOf item → ℕ → Bool
  ignores_sender pipe sender = ignores_own pipe && pipe.owner == sender

  -- option bit 0x02: a full pipe drops its oldest item for a newer one
  abbrev pub drops_oldest : PipeOf item → Bool
  drops_oldest pipe = pipe.bits / 2 % 2 == 1

  -- how many items of a subscription are queued in the pipe
  abbrev pub waiting_of : (item → ℕ) → PipeOf item → ℕ → ℕ
  waiting_of subscription_of pipe subscription =
      count_by (λ queued. subscription_of queued == subscription) pipe.queue

  -- the first of the verdicts that applies to a message of this sender, if it is told whether
  -- its subscription's limit is reached
  abbrev pub verdict_over : Bool → PipeOf item → ℕ → Verdict
  verdict_over is_over pipe sender =
      if ignores_sender pipe sender then Skip
      else if is_over then OverLimit
      else if nat_lt (length pipe.queue) pipe.depth then In
      else if drops_oldest pipe then Oldest
      else Full

  -- the verdict on a message of this sender for the subscription
  abbrev pub verdict : (item → ℕ) → PipeOf item → Subscription → ℕ → Verdict
  verdict subscription_of pipe sub sender =
      verdict_over (nat_le sub.limit (waiting_of subscription_of pipe sub.number)) pipe sender

  -- what is queued once an item was offered that got this verdict: at Oldest the item that waits
  -- longest leaves, and at In and at Oldest the new one goes last
  abbrev pub queue_after : Verdict → item → List item → List item
  queue_after Skip newest queue = queue
  queue_after OverLimit newest queue = queue
  queue_after In newest queue = queue ++ newest ∷ []
  queue_after Oldest newest queue = drop 1 queue ++ newest ∷ []
  queue_after Full newest queue = queue

  -- what leaves of the queue then: at Oldest the item that waits longest
  abbrev pub dropped_at : Verdict → List item → Option item
  dropped_at Skip queue = None
  dropped_at OverLimit queue = None
  dropped_at In queue = None
  dropped_at Oldest queue = oldest queue
  dropped_at Full queue = None

  -- the pipe after the offer of an item of this sender, given whether its subscription's limit is
  -- reached: it queues what the verdict says
  abbrev pub offered_over : Bool → ℕ → item → PipeOf item → PipeOf item
  offered_over is_over sender newest pipe =
      record pipe { queue = queue_after (verdict_over is_over pipe sender) newest pipe.queue }

  -- the pipe once a subscription of its own was offered the message
  abbrev pub offered : Offer item → Subscription → PipeOf item → PipeOf item
  offered offer sub pipe =
      offered_over (nat_le sub.limit (waiting_of offer.subscription_of pipe sub.number))
      offer.sender (offer.item_for sub) pipe

  -- the pipes once each of these subscriptions was offered the message, in order
  abbrev pub deliver : Offer item → List Subscription → List (PipeOf item) → List (PipeOf item)
  deliver offer [] pipes = pipes
  deliver offer (sub ∷ subs) pipes =
      deliver offer subs (with_pipe (offered offer sub) sub.pipe pipes)

  -- 1 if the verdict on the message for the subscription is one of these
  abbrev pub counted_by : (Verdict → Bool) → Offer item → Subscription → List (PipeOf item) → ℕ
  counted_by test offer sub pipes =
      option_map_or
      (λ pipe. if test (verdict offer.subscription_of pipe sub offer.sender) then 1 else 0)
      (pipe_at pipes sub.pipe) 0

  -- how many of these subscriptions have such a verdict, each as its turn comes
  abbrev pub verdicts_of : (Verdict → Bool) → Offer item → List Subscription →
      List (PipeOf item) → ℕ
  verdicts_of test offer [] pipes = 0
  verdicts_of test offer (sub ∷ subs) pipes =
      counted_by test offer sub pipes +
      verdicts_of test offer subs (with_pipe (offered offer sub) sub.pipe pipes)

  -- how many of these subscriptions have the verdict In or Oldest, each as its turn comes
  abbrev pub reached : Offer item → List Subscription → List (PipeOf item) → ℕ
  reached offer subs pipes = verdicts_of is_queued offer subs pipes

  -- how many of them have the verdict Oldest
  abbrev pub drops : Offer item → List Subscription → List (PipeOf item) → ℕ
  drops offer subs pipes = verdicts_of is_oldest offer subs pipes

  -- the subscription's pipe and why a message is missed there for the one that it is offered, if
  -- one is
  abbrev pub misses_by : Offer item → Subscription → List (PipeOf item) → List Miss
  misses_by offer sub pipes =
      option_map_or (λ cause. record { pipe = sub.pipe; cause = cause } ∷ [])
      (option_and_then (λ pipe. cause_of (verdict offer.subscription_of pipe sub offer.sender))
      (pipe_at pipes sub.pipe)) []

  -- the pipes at which a message is missed, with the cause of each, in order of the subscriptions,
  -- each as its turn comes
  abbrev pub misses_of : Offer item → List Subscription → List (PipeOf item) → List Miss
  misses_of offer [] pipes = []
  misses_of offer (sub ∷ subs) pipes =
      misses_by offer sub pipes ++
      misses_of offer subs (with_pipe (offered offer sub) sub.pipe pipes)

-- a pipe, with each of its items read in this way
abbrev pub pipe_by : {item other : Type 0} → (item → other) → PipeOf item → PipeOf other
pipe_by read pipe = record {
  number = pipe.number;
  name = pipe.name;
  owner = pipe.owner;
  depth = pipe.depth;
  bits = pipe.bits;
  queue = map read pipe.queue;
  last = option_map read pipe.last;
}
