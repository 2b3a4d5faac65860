use Rattle.script_runs.proofs.ScriptHistories.{rotation-legal}
use Rattle.script_runs.proofs.TableHistories.{rotation-legal_tables, rotation-merges_both}
use Rattle.script_runs.proofs.laws.rotations_are_runs.Goals as goal

pub returns : goal.returns
returns c = λ script. record { legal = rotation-legal script; legal_tables = rotation-legal_tables script; merges = rotation-merges_both script }
