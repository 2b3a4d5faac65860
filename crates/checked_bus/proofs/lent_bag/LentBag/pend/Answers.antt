use Rattle.std.proofs.Common.{sym, subst}
use Rattle.bus_core.specs.Bags.{HasBag}
use Rattle.checked_bus.proofs.LentSeats.{own_views, after_views}
use Rattle.checked_bus.proofs.lent_bag.LentBag.pend.Goals as goal

pub pend_lending-requires-clause-views : goal.pend_lending-requires-clause-views
pend_lending-requires-clause-views g c =
    own_views c.args.core.now c.args.app c.self.inside.held c.self.inside.seats.items c.self.inside.room c.self.invariant.0 (subst (HasBag c.args.core.now c.args.app) (sym c.self.view_is) c.requires.bag)

pub returns-clause-bag : goal.returns-clause-bag
returns-clause-bag g c =
    after_views c.args.core.now c.pend_lending.new.self c.args.app c.self.inside.held c.pend_lending.new.held c.self.inside.seats.items c.self.inside.room c.self.invariant.0 c.pend_lending.ensures.buffers c.pend_lending.ensures.bag
    (subst (HasBag c.args.core.now c.args.app) (sym c.self.view_is) c.requires.bag)
