use Rattle.bridge_runs.proofs.BridgeLaws.{order, alone, few, within_lines, within_bytes}
use Rattle.bridge_runs.proofs.laws.bridges_forward.Goals as goal

pub returns : goal.returns
returns c = record { order = order; alone = alone; few = few; lines = within_lines; bytes = within_bytes }
