use Rattle.std.proofs.Common.{subst}
use Rattle.app_script.specs.Ranges.{IsInRange}
use Rattle.app_script.specs.Inside.{script_in}
use Rattle.app_script.proofs.InRange.{in_range}
use Rattle.app_script.proofs.script.Script.recall_ranges.Goals as goal

pub returns-clause-run : goal.returns-clause-run
returns-clause-run c = subst IsInRange c.self.view_is (in_range (script_in c.self.inside) c.self.invariant)
