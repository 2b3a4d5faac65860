use Rattle.std.proofs.Common.{◌≡◌, ◌++◌, drop}
use Rattle.list_pipes.specs.Leaving.{numbers_of}
use Rattle.list_pipes.proofs.pipes.push_numbers_of.Given as goal

-- the numbers of the pipes that are left are still to come
abbrev pub invariant-loop-pipe : goal.invariant-loop-pipe
invariant-loop-pipe l = l.gone.items ++ numbers_of l.app (drop l.pipe-index l.pipes) ≡ l.initial.gone.items ++ numbers_of l.app l.pipes
