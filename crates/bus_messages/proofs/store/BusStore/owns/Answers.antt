use Rattle.std.proofs.Common.{ap, sym, ◌∙◌}
use Rattle.bus_words.specs.Bus.{owns}
use Rattle.bus_messages.specs.Store.{Store}
use Rattle.bus_messages.specs.Inside.{item_in}
use Rattle.bus_words.proofs.PipeItems.{owns-map}
use Rattle.bus_messages.proofs.store.BusStore.owns.Goals as goal

pub returns : goal.returns
returns c =
    let a = c.self.inside in
    c.owns.ensures
    ∙ sym (owns-map (item_in a.desk.slots) a.tables.pipes c.args.app c.args.number)
    ∙ ap (λ (o : Store). owns o.pipes c.args.app c.args.number) c.self.view_is
