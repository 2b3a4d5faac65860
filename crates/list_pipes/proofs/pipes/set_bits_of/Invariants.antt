use Rattle.std.proofs.Common.{◌≡◌, ◌++◌, take, drop, length}
use Rattle.bus_words.specs.Pipes.{with_pipe, with_bits}
use Rattle.list_pipes.proofs.pipes.set_bits_of.Given as goal

-- the first pipes are done, the others are as they were
abbrev pub invariant-loop-place : goal.invariant-loop-place
invariant-loop-place l = record {
  done : l.pipes.items ≡ with_pipe (with_bits l.bits) l.number (take l.place l.initial.pipes.items) ++ drop l.place l.initial.pipes.items;
  long : length l.pipes.items ≡ length l.initial.pipes.items;
}
