use Rattle.bridge_runs.proofs.BridgeLaws.{one_left, two_left}
use Rattle.bridge_runs.proofs.laws.bridges_leave_nothing.Goals as goal

pub returns : goal.returns
returns c = record { one = one_left; two = two_left }
