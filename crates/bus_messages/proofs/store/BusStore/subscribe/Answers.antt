use Rattle.std.proofs.Common.{eqb, map, ap, sym, ◌∙◌}
use Rattle.fsw_base.proofs.Lists.{list_any-map}
use Rattle.bus_words.specs.Bus.{Pipe, is_live}
use Rattle.bus_messages.specs.Store.{Store}
use Rattle.bus_words.specs.Pipes.{pipe_by}
use Rattle.bus_messages.specs.Inside.{item_in}
use Rattle.bus_routes.specs.Tables.{Tables}
use Rattle.bus_messages.specs.Inside.{store_of, pipes_in, loan_in}
use Rattle.bus_messages.proofs.Lasts.{holds_still}
use Rattle.bus_messages.proofs.store.BusStore.subscribe.Goals as goal

pub subscribe-requires-clause-live : goal.subscribe-requires-clause-live
subscribe-requires-clause-live g c =
    let a = c.self.inside in
    sym (list_any-map (λ (p : Pipe). eqb p.number c.args.pipe) (pipe_by (item_in a.desk.slots)) a.tables.pipes)
    ∙ ap (λ (o : Store). is_live o.pipes c.args.pipe) c.self.view_is
    ∙ c.requires.live

pub returns-clause-bags : goal.returns-clause-bags
returns-clause-bags g c = λ app bag.
    let a = c.self.inside in
    holds_still c.args.self.now (store_of (record a { tables = c.subscribe.new.self })) app bag
    (ap (λ (t : Tables). pipes_in a.desk.slots t.pipes) c.subscribe.ensures.after ∙ ap (λ (o : Store). o.pipes) c.self.view_is)
    (ap (λ (t : Tables). map (loan_in a.desk.slots) t.pipes) c.subscribe.ensures.after ∙ ap (λ (o : Store). o.loans) c.self.view_is)
    (ap (λ (t : Tables). t.room) c.subscribe.ensures.after ∙ ap (λ (o : Store). o.room) c.self.view_is)
