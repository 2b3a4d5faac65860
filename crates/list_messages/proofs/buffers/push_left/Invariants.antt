use Rattle.std.proofs.Common.{◌≡◌, ◌++◌, drop}
use Rattle.list_messages.specs.Tied.{numbers_left}
use Rattle.list_messages.proofs.buffers.push_left.Given as goal

-- the numbers of the buffers that are left are still to come
abbrev pub invariant-loop-buffer : goal.invariant-loop-buffer
invariant-loop-buffer l = l.numbers.items ++ numbers_left l.number (drop l.buffer-index l.buffers) ≡ l.initial.numbers.items ++ numbers_left l.number l.buffers
