use Rattle.std.proofs.Common.{◌≡◌, ◌+◌, ◌++◌, drop}
use Rattle.bus_words.specs.Bus.{deliver, reached, missed}
use Rattle.list_messages.specs.Tied.{dropped_by, joined_by}
use Rattle.list_messages.proofs.delivery.deliver.Given as goal

-- what the subscriptions that are left do makes up the whole
abbrev pub invariant-loop-sub : goal.invariant-loop-sub
invariant-loop-sub l = record {
  pipes : deliver l.sending (drop l.sub-index l.subs) l.pipes.items ≡ deliver l.sending l.subs l.initial.pipes.items;
  number : l.done.number ≡ l.sending.number;
  reached : l.done.reached + reached l.sending (drop l.sub-index l.subs) l.pipes.items ≡ reached l.sending l.subs l.initial.pipes.items;
  misses : l.done.misses.items ++ missed l.sending (drop l.sub-index l.subs) l.pipes.items ≡ missed l.sending l.subs l.initial.pipes.items;
  gone : l.done.gone.items ++ dropped_by l.sending (drop l.sub-index l.subs) l.pipes.items ≡ dropped_by l.sending l.subs l.initial.pipes.items;
  joined : l.done.joined + joined_by l.sending (drop l.sub-index l.subs) l.pipes.items ≡ joined_by l.sending l.subs l.initial.pipes.items;
}
