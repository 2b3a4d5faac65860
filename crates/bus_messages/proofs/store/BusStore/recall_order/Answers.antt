use Rattle.std.proofs.Common.{subst}
use Rattle.bus_messages.specs.Store.{Store}
use Rattle.bus_messages.specs.Inside.{item_in}
use Rattle.bus_words.specs.Pipes.{IsRising}
use Rattle.bus_words.proofs.PipeItems.{IsRising-map}
use Rattle.bus_messages.proofs.store.BusStore.recall_order.Goals as goal

pub returns : goal.returns
returns c =
    let a = c.self.inside in
    subst (λ (o : Store). IsRising 0 o.pipes) c.self.view_is (IsRising-map (item_in a.desk.slots) 0 a.tables.pipes c.recall_order.ensures)
