use Rattle.std.proofs.Common.{length, ap, sym, ◌∙◌}
use Rattle.std.proofs.lemmas.List.{length-map}
use Rattle.bus_messages.specs.Store.{Store}
use Rattle.bus_words.specs.Pipes.{pipe_by}
use Rattle.bus_messages.specs.Inside.{item_in}
use Rattle.bus_messages.proofs.store.BusStore.pipes_len.Goals as goal

pub returns-clause-len : goal.returns-clause-len
returns-clause-len c =
    let a = c.self.inside in
    c.pipes_len.ensures ∙ sym (length-map a.tables.pipes (pipe_by (item_in a.desk.slots))) ∙ ap (λ (o : Store). length o.pipes) c.self.view_is
