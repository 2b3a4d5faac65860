use Rattle.std.proofs.Common.{subst}
use Rattle.bucket_list.specs.Lists.{AreApart}
use Rattle.bucket_list.proofs.lists.Lists.recall_apart.Goals as goal

pub returns : goal.returns
returns c = subst AreApart c.self.view_is (record { once = c.self.invariant.0.once; exist = c.self.invariant.0.exist })
