use Rattle.std.proofs.Common.{length, ap, sym, ◌∙◌}
use Rattle.std.specs.Option.{option_map}
use Rattle.bus_words.specs.Bus.{Pipe, pipe_at}
use Rattle.bus_messages.specs.Store.{Store}
use Rattle.bus_messages.specs.Inside.{item_in}
use Rattle.bus_messages.proofs.Readers.{waiting_on_it}
use Rattle.bus_messages.proofs.store.BusStore.waiting_count.Goals as goal

pub returns : goal.returns
returns c =
    let a = c.self.inside in
    c.waiting_count.ensures
    ∙ sym (waiting_on_it (item_in a.desk.slots) a.tables.pipes c.args.number)
    ∙ ap (λ (o : Store). option_map (λ (p : Pipe). length p.queue) (pipe_at o.pipes c.args.number)) c.self.view_is
