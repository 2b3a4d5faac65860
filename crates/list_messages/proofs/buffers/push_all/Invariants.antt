use Rattle.std.proofs.Common.{◌≡◌, ◌++◌, map, take}
use Rattle.bus_words.specs.Bus.{Buffer}
use Rattle.list_messages.proofs.buffers.push_all.Given as goal

-- the numbers of the buffers seen are there
abbrev pub invariant-loop-buffer : goal.invariant-loop-buffer
invariant-loop-buffer l = l.numbers.items ≡ l.initial.numbers.items ++ map (λ (b : Buffer). b.number) (take l.buffer-index l.buffers)
