use Rattle.std.proofs.Common.{ap, sym, ◌∙◌, eqb, find}
use Rattle.std.specs.Option.{option_map}
use Rattle.bus_words.specs.Bus.{Pipe}
use Rattle.bus_messages.specs.Store.{Store}
use Rattle.bus_messages.specs.Inside.{item_in}
use Rattle.bus_messages.proofs.Readers.{at_owner}
use Rattle.bus_messages.proofs.store.BusStore.first_of.Goals as goal

pub returns : goal.returns
returns c =
    let a = c.self.inside in
    c.first_of.ensures
    ∙ sym (at_owner (item_in a.desk.slots) (λ (p : Pipe). p.number) a.tables.pipes c.args.app)
    ∙ ap (λ (o : Store). option_map (λ (p : Pipe). p.number) (find (λ (p : Pipe). eqb p.owner c.args.app) o.pipes)) c.self.view_is
