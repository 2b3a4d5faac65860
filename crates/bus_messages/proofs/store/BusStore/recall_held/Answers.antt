use Rattle.std.proofs.Common.{◌≡◌, subst}
use Rattle.bus_messages.specs.Store.{Store}
use Rattle.bus_messages.specs.Words.{with_held}
use Rattle.bus_messages.proofs.Accounts.{held_law}
use Rattle.bus_messages.proofs.store.BusStore.recall_held.Goals as goal

pub returns : goal.returns
returns c =
    subst (λ (o : Store). o.account ≡ with_held o.account o.pipes o.unsent o.numbers_given) c.self.view_is
    (held_law c.self.inside c.self.invariant c.recall_live.ensures.live)
