use Rattle.std.proofs.Common.{subst}
use Rattle.checked_bus.specs.Box.{Keeps}
use Rattle.checked_bus.proofs.boxed.SbBox.recall_bags.Goals as goal

pub returns : goal.returns
returns c = subst Keeps c.self.view_is c.self.invariant
