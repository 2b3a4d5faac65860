use Rattle.std.proofs.Common.{◌≡◌, drop}
use Rattle.bus_words.specs.Acts.{next_in}
use Rattle.list_pipes.proofs.nexts.next_in.Given as goal

-- what is left decides
abbrev pub invariant-loop-next : goal.invariant-loop-next
invariant-loop-next l = next_in (drop l.next-index l.nexts) l.id ≡ next_in l.nexts l.id
