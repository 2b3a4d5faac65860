-- The counters of a software bus (cFE Software Bus, housekeeping telemetry), and one of our own.
use Rattle.std.specs.Prelude.{ℕ, ◌==◌, min, List, count_by}
use Rattle.fsw_base.specs.PoolAccounts.{counted}
use Rattle.housekeeping.specs.declared.names.CounterName.{CounterName}
use Rattle.housekeeping.specs.declared.names.CounterName.TheVariants.{Nosub, Send, Recv, Create, Sub, Opts, Find, Dup, Limit, Overflow, Oldest}

-- what each counter shows, at most 4294967295
pub record Counts : Type 0 where
  -- messages that nobody was subscribed to
  pub nosub : ℕ
  -- refused sends, and refused takings and releases of a buffer
  pub send : ℕ
  -- refused receives, but for those that found no message
  pub recv : ℕ
  -- pipes that were not made, and refused deletions
  pub create : ℕ
  -- refused subscriptions, and refused ends of one
  pub sub : ℕ
  -- refused settings and readings of a pipe's options
  pub opts : ℕ
  -- names of pipes, and pipes of names, that were not found
  pub find : ℕ
  -- subscriptions that stood already
  pub dup : ℕ
  -- messages that a subscription's limit kept from a pipe
  pub limit : ℕ
  -- messages that a full pipe kept out
  pub overflow : ℕ
  -- messages for which a full pipe dropped its oldest one
  pub oldest : ℕ

-- nothing was counted yet
abbrev pub no_counts : Counts
no_counts =
    record {
      nosub = 0;
      send = 0;
      recv = 0;
      create = 0;
      sub = 0;
      opts = 0;
      find = 0;
      dup = 0;
      limit = 0;
      overflow = 0;
      oldest = 0;
    }

-- what the counter of a name shows
abbrev pub count_of : Counts → CounterName → ℕ
count_of counts Nosub = counts.nosub
count_of counts Send = counts.send
count_of counts Recv = counts.recv
count_of counts Create = counts.create
count_of counts Sub = counts.sub
count_of counts Opts = counts.opts
count_of counts Find = counts.find
count_of counts Dup = counts.dup
count_of counts Limit = counts.limit
count_of counts Overflow = counts.overflow
count_of counts Oldest = counts.oldest

-- one more on the counter of a name, which stops at its last value; the others stay
abbrev pub ticked : Counts → CounterName → Counts
ticked counts Nosub = record counts { nosub = counted counts.nosub }
ticked counts Send = record counts { send = counted counts.send }
ticked counts Recv = record counts { recv = counted counts.recv }
ticked counts Create = record counts { create = counted counts.create }
ticked counts Sub = record counts { sub = counted counts.sub }
ticked counts Opts = record counts { opts = counted counts.opts }
ticked counts Find = record counts { find = counted counts.find }
ticked counts Dup = record counts { dup = counted counts.dup }
ticked counts Limit = record counts { limit = counted counts.limit }
ticked counts Overflow = record counts { overflow = counted counts.overflow }
ticked counts Oldest = record counts { oldest = counted counts.oldest }

-- the counters' numbers, from 0, by which a name is told from the others
abbrev pub counter_number : CounterName → ℕ
counter_number Nosub = 0
counter_number Send = 1
counter_number Recv = 2
counter_number Create = 3
counter_number Sub = 4
counter_number Opts = 5
counter_number Find = 6
counter_number Dup = 7
counter_number Limit = 8
counter_number Overflow = 9
counter_number Oldest = 10

-- how often a name occurs among those of the events so far
abbrev pub times : CounterName → List CounterName → ℕ
times name events = count_by (λ event. counter_number event == counter_number name) events

-- what a counter shows of so many events: their number, at most the largest of 32 bits
abbrev pub shown : ℕ → ℕ
shown events = min events 4294967295

-- what the counters show of events, each of which one counter counts
abbrev pub counts_of : List CounterName → Counts
counts_of events = record {
  nosub = shown (times Nosub events);
  send = shown (times Send events);
  recv = shown (times Recv events);
  create = shown (times Create events);
  sub = shown (times Sub events);
  opts = shown (times Opts events);
  find = shown (times Find events);
  dup = shown (times Dup events);
  limit = shown (times Limit events);
  overflow = shown (times Overflow events);
  oldest = shown (times Oldest events);
}
