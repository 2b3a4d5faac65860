use Rattle.std.proofs.Common.{subst}
use Rattle.tbl_registry.specs.Listing.{IsTied}
use Rattle.tbl_registry.proofs.registry.Registry.recall_ties.Goals as goal

pub returns : goal.returns
returns c = subst IsTied c.self.view_is c.self.invariant.0.tied
