use Rattle.std.proofs.Common.{length}
use Rattle.table_replay.proofs.Passed.{Passed}
use Rattle.table_replay.proofs.all_lines.replay_tables.Given as goal

-- the lines so far are those of a history
abbrev pub invariant-loop-replay : goal.invariant-loop-replay
invariant-loop-replay l = Passed l.script l.fn.text l.replay l.text

abbrev pub decreases-loop-replay : goal.decreases-loop-replay
decreases-loop-replay l = length l.text.rest
