use Rattle.std.proofs.Common.{subst}
use Rattle.checked_tables.specs.Box.{Keeps}
use Rattle.checked_tables.proofs.boxed.TblBox.recall_bags.Goals as goal

pub returns : goal.returns
returns c = subst Keeps c.self.view_is c.self.invariant
