use Rattle.std.proofs.Common.{[]}
use Rattle.bus_words.specs.Bus.{opening}
use Rattle.bus_words.proofs.Replay.{goes_on, stepped-legal}
use Rattle.bus_words.proofs.laws.histories_are_runs.Goals as goal

pub returns : goal.returns
returns c = record {
  runs = λ limits apps history legal. stepped-legal limits [] (opening limits apps) history legal;
  goes_on = goes_on;
}
