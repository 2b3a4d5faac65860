use Rattle.std.proofs.Common.{ℕ, cond, Option, None, ap, sym, ◌∙◌}
use Rattle.std.specs.Option.{option_map}
use Rattle.bus_words.specs.Bus.{Item, owns}
use Rattle.bus_routes.specs.declared.tables.ItemRow.{ItemRow}
use Rattle.bus_messages.specs.Store.{Store}
use Rattle.bus_words.specs.Pipes.{last_on}
use Rattle.bus_messages.proofs.Readers.{last_number}
use Rattle.bus_messages.proofs.store.BusStore.last.Goals as goal

pub returns-in_err-item : goal.returns-in_err-item
returns-in_err-item c =
    let a = c.self.inside in
    c.from_residual.ensures
    ∙ sym (ap (option_map (λ (i : ItemRow). i.number)) (sym c.last.ensures ∙ c.in_err-item.was))
    ∙ sym (last_number a.desk.slots a.tables.pipes c.args.app c.args.number)
    ∙ ap (λ (o : Store). cond {A = Option ℕ} (owns o.pipes c.args.app c.args.number) (option_map (λ (i : Item). i.number) (last_on o.pipes c.args.number)) None) c.self.view_is

pub returns : goal.returns
returns c =
    let a = c.self.inside in
    sym (ap (option_map (λ (i : ItemRow). i.number)) (sym c.last.ensures ∙ c.in_ok-item.was))
    ∙ sym (last_number a.desk.slots a.tables.pipes c.args.app c.args.number)
    ∙ ap (λ (o : Store). cond {A = Option ℕ} (owns o.pipes c.args.app c.args.number) (option_map (λ (i : Item). i.number) (last_on o.pipes c.args.number)) None) c.self.view_is
