use Rattle.std.proofs.Common.{ap, sym, ◌∙◌, subst}
use Rattle.lend_block.specs.Loan.{LentBytes}
use Rattle.buf_desc.specs.Held.{Holding}
use Rattle.bus_core.specs.Bags.{HasBag}
use Rattle.checked_bus.proofs.LentSeats.{none_lent, lent_none}
use Rattle.checked_bus.proofs.lent_bag.LentBag.end.Goals as goal

pub end-requires-clause-bag : goal.end-requires-clause-bag
end-requires-clause-bag g c =
    none_lent c.args.core.now c.args.app c.self.inside.held c.self.inside.seats.items c.self.inside.room c.self.invariant.0 (ap (λ (b : Holding LentBytes). b.buffers) c.self.view_is ∙ c.requires.none)
    (subst (HasBag c.args.core.now c.args.app) (sym c.self.view_is) c.requires.bag)

pub returns-clause-bag : goal.returns-clause-bag
returns-clause-bag g c =
    lent_none c.end.new.self c.args.app c.end.new.held c.self.inside.seats.items c.self.inside.room (ap (λ (b : Holding LentBytes). b.buffers) c.end.ensures.empty) (ap (λ (b : Holding LentBytes). b.buffers) c.self.view_is ∙ c.requires.none) c.end.ensures.bag
