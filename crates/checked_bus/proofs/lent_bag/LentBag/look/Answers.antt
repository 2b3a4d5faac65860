use Rattle.std.proofs.Common.{sym, subst}
use Rattle.bus_core.specs.Bags.{HasBag}
use Rattle.checked_bus.proofs.LentSeats.{own_views, after_views}
use Rattle.checked_bus.proofs.lent_bag.LentBag.look.Goals as goal

pub look_lending-requires-clause-views : goal.look_lending-requires-clause-views
look_lending-requires-clause-views c =
    own_views c.args.core.now c.args.app c.self.inside.held c.self.inside.seats.items c.self.inside.room c.self.invariant.0 (subst (HasBag c.args.core.now c.args.app) (sym c.self.view_is) c.requires.bag)

pub returns-clause-bag : goal.returns-clause-bag
returns-clause-bag c =
    after_views c.args.core.now c.look_lending.new.self c.args.app c.self.inside.held c.look_lending.new.held c.self.inside.seats.items c.self.inside.room c.self.invariant.0 c.look_lending.ensures.buffers c.look_lending.ensures.bag
    (subst (HasBag c.args.core.now c.args.app) (sym c.self.view_is) c.requires.bag)
