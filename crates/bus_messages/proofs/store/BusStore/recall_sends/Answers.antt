use Rattle.std.proofs.Common.{AllPairs, subst}
use Rattle.std.specs.List.{All}
use Rattle.bus_words.specs.Bus.{Item}
use Rattle.bus_words.specs.Held.{items_of}
use Rattle.bus_messages.specs.Store.{Store}
use Rattle.bus_messages.specs.Blocks.{IsGiven, AreOfOneSend}
use Rattle.bus_messages.proofs.ShownBlocks.{are_given, are_alike}
use Rattle.bus_messages.proofs.store.BusStore.recall_sends.Goals as goal

pub returns-clause-given : goal.returns-clause-given
returns-clause-given c =
    let a = c.self.inside in
    subst (λ (o : Store). All (λ (i : Item). IsGiven o.numbers_given i.number) (items_of o.pipes)) c.self.view_is (are_given a.desk a.tables.pipes a.lists.lists a.given c.self.invariant.backed c.self.invariant.listed)

pub returns-clause-alike : goal.returns-clause-alike
returns-clause-alike c =
    let a = c.self.inside in
    subst (λ (o : Store). AllPairs AreOfOneSend (items_of o.pipes)) c.self.view_is (are_alike a.desk a.tables.pipes a.lists.lists a.given c.self.invariant.backed c.self.invariant.listed)
