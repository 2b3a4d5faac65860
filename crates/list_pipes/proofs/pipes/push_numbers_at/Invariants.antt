use Rattle.std.proofs.Common.{◌≡◌, ◌++◌, drop}
use Rattle.list_pipes.specs.Leaving.{numbers_at}
use Rattle.list_pipes.proofs.pipes.push_numbers_at.Given as goal

-- the numbers of the pipes that are left are still to come
abbrev pub invariant-loop-pipe : goal.invariant-loop-pipe
invariant-loop-pipe l = l.gone.items ++ numbers_at l.number (drop l.pipe-index l.pipes) ≡ l.initial.gone.items ++ numbers_at l.number l.pipes
