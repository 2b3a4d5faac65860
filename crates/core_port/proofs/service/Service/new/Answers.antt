use Rattle.std.proofs.Common.{[], ap, sym, ◌∙◌}
use Rattle.atomic_table.specs.Seated.{TableId}
use Rattle.core_port.specs.Inside.{BoxedView}
use Rattle.core_port.specs.Ports.{MainView}
use Rattle.core_port.proofs.Mains.{no_history, opened, opens}
use Rattle.core_port.proofs.service.Service.new.Goals as goal

-- a main part that has made no port
abbrev opened_main : {S N : Type 0} → TableId → S → MainView S N
opened_main lock core = record { lock = lock; seen = core; apps = []; ended = [] }

pub new-requires-2-clause-empty : goal.new-requires-2-clause-empty
new-requires-2-clause-empty g c =
    no_history g.K.Kind.words c.laws.ensures c.in_ok-boxed.boxed.core c.recall.ensures
    (ap (λ (k : BoxedView _). g.K.Kind.words.entries k.core) c.in_ok-boxed.ensures ∙ c.requires.empty)

pub invariant_of-result-2 : goal.invariant_of-result-2
invariant_of-result-2 g c =
    let w = g.K.Kind.words in
    opens w c.laws.ensures c.in_ok-boxed.boxed.core c.recall.ensures
    (ap (λ (k : BoxedView _). g.K.Kind.words.entries k.core) c.in_ok-boxed.ensures ∙ c.requires.empty)
    c.in_ok-lock.seat c.in_ok-lock.lock.name c.in_ok-lock.ensures.main c.in_ok-lock.ensures.view
    c.in_ok-given.given.items c.args.view_room
    (ap (λ (k : BoxedView _). (w.fixed k.core).budgets) c.in_ok-boxed.ensures ∙ c.requires.budgets ∙ sym (c.in_ok-given.ensures.items_if_clones_equal (λ x y same. same)))
    (ap (λ (k : BoxedView _). w.view_room (w.fixed k.core).limits) c.in_ok-boxed.ensures ∙ c.requires.views)

pub returns : goal.returns
returns g c =
    opened g.K.Kind.words c.laws.ensures c.in_ok-boxed.boxed.core c.recall.ensures
    (ap (λ (k : BoxedView _). g.K.Kind.words.entries k.core) c.in_ok-boxed.ensures ∙ c.requires.empty)
    c.in_ok-lock.seat c.in_ok-lock.lock.name c.in_ok-lock.ensures.main c.in_ok-lock.ensures.view
    ∙ ap (λ (k : BoxedView _). opened_main c.in_ok-lock.lock.name k.core) c.in_ok-boxed.ensures
