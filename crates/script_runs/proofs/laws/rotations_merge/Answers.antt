use Rattle.script_runs.proofs.ScriptHistories.{rotation-ends, rotation-legal, rotation-holds_nothing}
use Rattle.script_runs.proofs.TableHistories.{rotation-legal_tables, rotation-merges_both, rotation-holds_no_tables}
use Rattle.script_runs.proofs.laws.rotations_merge.Goals as goal

pub returns : goal.returns
returns c = record {
  ends = rotation-ends;
  legal = rotation-legal;
  legal_tables = rotation-legal_tables;
  merges = rotation-merges_both;
  nothing = rotation-holds_nothing;
  no_tables = rotation-holds_no_tables;
}
