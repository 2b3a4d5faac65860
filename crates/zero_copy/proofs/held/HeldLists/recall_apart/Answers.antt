use Rattle.std.proofs.Common.{subst}
use Rattle.zero_copy.specs.Held.{AreApart}
use Rattle.zero_copy.proofs.Changes.{held_apart}
use Rattle.zero_copy.proofs.held.HeldLists.recall_apart.Goals as goal

pub returns : goal.returns
returns c =
    let s = c.self.inside in
    subst AreApart c.self.view_is (held_apart s.next s.prev s.counts.items s.owners.items s.descs c.self.invariant)
