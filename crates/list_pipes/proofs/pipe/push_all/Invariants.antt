use Rattle.std.proofs.Common.{◌≡◌, ◌++◌, map, take}
use Rattle.bus_words.specs.Bus.{Item}
use Rattle.list_pipes.proofs.pipe.push_all.Given as goal

-- the numbers of the items seen are there
abbrev pub invariant-loop-item : goal.invariant-loop-item
invariant-loop-item l = l.numbers.items ≡ l.initial.numbers.items ++ map (λ (i : Item). i.number) (take l.item-index l.items)
