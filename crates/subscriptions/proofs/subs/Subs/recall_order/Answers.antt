use Rattle.std.proofs.Common.{subst}
use Rattle.subscriptions.specs.Subs.{AreInOrder}
use Rattle.subscriptions.proofs.Order.{in_order}
use Rattle.subscriptions.proofs.subs.Subs.recall_order.Goals as goal

pub returns : goal.returns
returns c =
    let s = c.self.inside in
    subst AreInOrder c.self.view_is (in_order s.slots.items s.free.items s.made s.room c.self.invariant.0 c.self.invariant.1)
