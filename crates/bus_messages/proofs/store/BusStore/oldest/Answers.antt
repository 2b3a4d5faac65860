use Rattle.std.proofs.Common.{ap, sym, ◌∙◌}
use Rattle.std.specs.Option.{option_map}
use Rattle.bus_words.specs.Bus.{Item}
use Rattle.bus_routes.specs.declared.tables.ItemRow.{ItemRow}
use Rattle.bus_messages.specs.Store.{Store}
use Rattle.bus_words.specs.Pipes.{oldest_on}
use Rattle.bus_messages.proofs.Readers.{oldest_number}
use Rattle.bus_messages.proofs.store.BusStore.oldest.Goals as goal

pub returns-in_err-item : goal.returns-in_err-item
returns-in_err-item c =
    let a = c.self.inside in
    c.from_residual.ensures
    ∙ sym (ap (option_map (λ (i : ItemRow). i.number)) (sym c.oldest.ensures ∙ c.in_err-item.was))
    ∙ sym (oldest_number a.desk.slots a.tables.pipes c.args.number)
    ∙ ap (λ (o : Store). option_map (λ (i : Item). i.number) (oldest_on o.pipes c.args.number)) c.self.view_is

pub returns : goal.returns
returns c =
    let a = c.self.inside in
    sym (ap (option_map (λ (i : ItemRow). i.number)) (sym c.oldest.ensures ∙ c.in_ok-item.was))
    ∙ sym (oldest_number a.desk.slots a.tables.pipes c.args.number)
    ∙ ap (λ (o : Store). option_map (λ (i : Item). i.number) (oldest_on o.pipes c.args.number)) c.self.view_is
