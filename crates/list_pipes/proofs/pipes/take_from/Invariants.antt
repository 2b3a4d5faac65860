use Rattle.std.proofs.Common.{◌≡◌, ◌++◌, take, drop, length}
use Rattle.bus_words.specs.Pipes.{with_pipe, after_receive}
use Rattle.list_pipes.specs.Leaving.{last_at}
use Rattle.list_pipes.proofs.pipes.take_from.Given as goal

-- the first pipes are done, the others are as they were
abbrev pub invariant-loop-place : goal.invariant-loop-place
invariant-loop-place l = record {
  done : l.pipes.items ≡ with_pipe after_receive l.number (take l.place l.initial.pipes.items) ++ drop l.place l.initial.pipes.items;
  long : length l.pipes.items ≡ length l.initial.pipes.items;
  gone : l.gone.items ++ last_at l.number (drop l.place l.initial.pipes.items) ≡ l.initial.gone.items ++ last_at l.number l.initial.pipes.items;
}
