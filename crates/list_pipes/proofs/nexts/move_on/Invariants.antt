use Rattle.std.proofs.Common.{◌≡◌, ◌++◌, map, take, drop}
use Rattle.bus_words.specs.Acts.{moved_on}
use Rattle.list_pipes.proofs.nexts.move_on.Given as goal

-- those seen are done, the others are as they were
abbrev pub invariant-loop-next : goal.invariant-loop-next
invariant-loop-next l = l.next-items ≡ map (moved_on l.id) (take l.next-index l.initial.next-items) ++ drop l.next-index l.initial.next-items
