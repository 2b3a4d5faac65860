-- What the fields of the bus stand for.
use Rattle.std.specs.Prelude.{map}
use Rattle.fsw_base.specs.Limits.{Limits, limits_of}
use Rattle.bus_words.specs.Acts.{Whole}
use Rattle.list_bus.specs.Played.{Played}
use Rattle.list_bus.specs.Standings.{standing_in}
use Rattle.list_bus.specs.declared.bus.ListBus.TheInside.{Inside}

-- the state that the fields stand for
abbrev pub means : Inside → Whole
means a = record {
  bus = record {
    pipes = a.messages.part.pipes;
    pipes_created = a.messages.part.pipes_created;
    subscriptions = a.subs.subscriptions;
    subscriptions_made = a.subs.made;
    routed = a.subs.routed;
    unsent = a.messages.part.unsent;
    numbers_given = a.messages.part.numbers_given;
    standings = map standing_in a.standings.items;
    pools = a.pools;
    made = a.messages.part.made;
    drawn = a.messages.part.drawn;
    events = a.desk;
    statistics = a.counters;
  };
  nexts = a.nexts;
}

-- the limits, of which the messages have the pool's
abbrev pub limits_in : Inside → Limits
limits_in a =
    record (limits_of a.config) { pool = a.messages.part.pool; sizes = a.messages.part.sizes }

-- the bus as its callers see it
abbrev pub played_in : Inside → Played
played_in a = record { limits = limits_in a; whole = means a; uses = a.messages.uses }
