use Rattle.std.proofs.Common.{◌&&◌, not, eqb, map, filter, refl, ap, ◌∙◌, arith}
use Rattle.std.proofs.lemmas.List.Filters.{length-filter_both}
use Rattle.bus_words.specs.Bus.{Subscription}
use Rattle.bus_messages.specs.Store.{Store}
use Rattle.bus_messages.proofs.Changes.{fewer_keeps}
use Rattle.bus_routes.specs.Tables.{Tables}
use Rattle.bus_messages.specs.Inside.{store_of, pipes_in, loan_in}
use Rattle.bus_messages.proofs.Lasts.{holds_still}
use Rattle.bus_messages.proofs.store.BusStore.unsubscribe.Goals as goal

pub invariant_of-self : goal.invariant_of-self
invariant_of-self g c =
    let a = c.self.inside in
    let both = length-filter_both (λ (s : Subscription). not (eqb s.id c.args.id && eqb s.pipe c.args.pipe)) (λ s. not (not (eqb s.id c.args.id && eqb s.pipe c.args.pipe))) (λ s. refl) a.tables.subscriptions in
    fewer_keeps a c.unsubscribe.new.self (filter (λ (s : Subscription). not (eqb s.id c.args.id && eqb s.pipe c.args.pipe)) a.tables.subscriptions) c.unsubscribe.ensures.after (omega (arith, both)) c.self.invariant

pub returns-clause-bags : goal.returns-clause-bags
returns-clause-bags g c = λ app bag.
    let a = c.self.inside in
    holds_still c.args.self.now (store_of (record a { tables = c.unsubscribe.new.self })) app bag
    (ap (λ (t : Tables). pipes_in a.desk.slots t.pipes) c.unsubscribe.ensures.after ∙ ap (λ (o : Store). o.pipes) c.self.view_is)
    (ap (λ (t : Tables). map (loan_in a.desk.slots) t.pipes) c.unsubscribe.ensures.after ∙ ap (λ (o : Store). o.loans) c.self.view_is)
    (ap (λ (t : Tables). t.room) c.unsubscribe.ensures.after ∙ ap (λ (o : Store). o.room) c.self.view_is)
