use Rattle.std.proofs.Common.{ap, sym, ◌∙◌}
use Rattle.std.specs.Option.{option_map}
use Rattle.bus_words.specs.Bus.{Pipe, pipe_named}
use Rattle.bus_messages.specs.Store.{Store}
use Rattle.bus_messages.specs.Inside.{item_in}
use Rattle.bus_messages.proofs.Readers.{at_name}
use Rattle.bus_messages.proofs.store.BusStore.find.Goals as goal

pub returns : goal.returns
returns c =
    let a = c.self.inside in
    c.find.ensures
    ∙ sym (at_name (item_in a.desk.slots) (λ (p : Pipe). p.number) a.tables.pipes c.args.name.now)
    ∙ ap (λ (o : Store). option_map (λ (p : Pipe). p.number) (pipe_named o.pipes c.args.name.now)) c.self.view_is
