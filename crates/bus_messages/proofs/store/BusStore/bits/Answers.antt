use Rattle.std.proofs.Common.{ap, sym, ◌∙◌}
use Rattle.std.specs.Option.{option_map}
use Rattle.bus_words.specs.Bus.{Pipe, pipe_at}
use Rattle.bus_messages.specs.Store.{Store}
use Rattle.bus_messages.specs.Inside.{item_in}
use Rattle.bus_messages.proofs.Readers.{at_number}
use Rattle.bus_messages.proofs.store.BusStore.bits.Goals as goal

pub returns : goal.returns
returns c =
    let a = c.self.inside in
    c.bits.ensures
    ∙ sym (at_number (item_in a.desk.slots) (λ (p : Pipe). p.bits) a.tables.pipes c.args.number)
    ∙ ap (λ (o : Store). option_map (λ (p : Pipe). p.bits) (pipe_at o.pipes c.args.number)) c.self.view_is
