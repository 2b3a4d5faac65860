use Rattle.std.proofs.Common.{◌≡◌, drop}
use Rattle.bus_words.specs.Pipes.{pipe_at}
use Rattle.list_pipes.proofs.pipes.pipe_at.Given as goal

-- what is left decides
abbrev pub invariant-loop-pipe : goal.invariant-loop-pipe
invariant-loop-pipe l = pipe_at (drop l.pipe-index l.pipes) l.number ≡ pipe_at l.pipes l.number
