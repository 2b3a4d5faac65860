use Rattle.std.proofs.Common.{[]}
use Rattle.tbl_words.specs.Tables.{opening}
use Rattle.tbl_words.proofs.Replay.{goes_on, run_from-legal}
use Rattle.tbl_words.proofs.laws.histories_are_runs.Goals as goal

pub returns : goal.returns
returns c = record {
  runs = λ limits apps history legal. run_from-legal limits [] (opening limits apps) history legal;
  goes_on = goes_on;
}
