use Rattle.std.proofs.Common.{refl}
use Rattle.checked_tables.proofs.Kept.{kept-bags}
use Rattle.checked_tables.proofs.boxed.TblBox.register.Goals as goal

pub invariant_of-self : goal.invariant_of-self
invariant_of-self g c = kept-bags c.self.inside.core c.register.new.self c.self.inside.bags.items _ _ _ refl c.self.invariant c.register.ensures.does
