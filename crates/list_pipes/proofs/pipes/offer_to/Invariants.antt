use Rattle.std.proofs.Common.{◌≡◌, ◌+◌, ◌≤◌, ◌++◌, take, drop, length}
use Rattle.bus_words.specs.Bus.{offered}
use Rattle.bus_words.specs.Pipes.{with_pipe}
use Rattle.list_pipes.specs.Leaving.{dropped_from, joined_to}
use Rattle.list_pipes.proofs.pipes.offer_to.Given as goal

-- the first pipes are done, the others are as they were
abbrev pub invariant-loop-place : goal.invariant-loop-place
invariant-loop-place l = record {
  done : l.pipes.items ≡ with_pipe (offered l.sending l.sub) l.sub.pipe (take l.place l.initial.pipes.items) ++ drop l.place l.initial.pipes.items;
  long : length l.pipes.items ≡ length l.initial.pipes.items;
  gone : l.gone.items ++ dropped_from l.sending l.sub (drop l.place l.initial.pipes.items) ≡ l.initial.gone.items ++ dropped_from l.sending l.sub l.initial.pipes.items;
  joined : l.joined + joined_to l.sending l.sub (drop l.place l.initial.pipes.items) ≡ joined_to l.sending l.sub l.initial.pipes.items;
  few : l.joined ≤ l.place;
}
