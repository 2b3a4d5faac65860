use Rattle.std.proofs.Common.{subst}
use Rattle.bus_messages.specs.Store.{Store}
use Rattle.bus_messages.specs.Blocks.{AreBlocks}
use Rattle.bus_messages.proofs.ShownBlocks.{are_blocks}
use Rattle.bus_messages.proofs.store.BusStore.desk.Goals as goal

pub returns-clause-blocks : goal.returns-clause-blocks
returns-clause-blocks c =
    let a = c.self.inside in
    subst (λ (o : Store). AreBlocks a.desk o.pipes o.loans o.unsent o.descs) c.self.view_is
    (are_blocks a.desk a.tables.pipes a.lists.lists a.given c.self.invariant.backed c.self.invariant.listed c.recall_live.ensures.whole)
