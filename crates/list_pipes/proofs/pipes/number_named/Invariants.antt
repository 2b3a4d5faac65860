use Rattle.std.proofs.Common.{◌≡◌, drop}
use Rattle.bus_words.specs.Pipes.{pipe_named}
use Rattle.list_pipes.proofs.pipes.number_named.Given as goal

-- what is left decides
abbrev pub invariant-loop-pipe : goal.invariant-loop-pipe
invariant-loop-pipe l = pipe_named (drop l.pipe-index l.pipes) l.name ≡ pipe_named l.pipes l.name
