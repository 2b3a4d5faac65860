use Rattle.std.proofs.Common.{◌≡◌, ap, sym, ◌∙◌, subst, map, All, Contains}
use Rattle.turn_lock.specs.Seats.{view_of}
use Rattle.core_port.specs.Histories.{own_entries}
use Rattle.core_port.specs.Ports.{MainView, Begins}
use Rattle.core_port.proofs.Mains.{all_joined, ended_are, others_none, seen_begins, opening_seen}
use Rattle.core_port.proofs.service.Service.close.Goals as goal

pub close-boxed-requires-clause-joined : goal.close-boxed-requires-clause-joined
close-boxed-requires-clause-joined g c =
    all_joined g.K.Kind.words c.laws.ensures (view_of c.main.inside.seat).apps (view_of c.main.inside.seat).ended
    (subst (λ (m : MainView _ _). All (Contains (map (λ e. e.0) m.ended)) m.apps) (sym c.main.view_is) c.requires.joined)

pub returns-clause-opening : goal.returns-clause-opening
returns-clause-opening g c =
    let w = g.K.Kind.words in
    ap w.fixed c.into_core.ensures
    ∙ opening_seen w c.laws.ensures c.close-boxed.result.core c.recall.ensures (view_of c.main.inside.seat).fixed (view_of c.main.inside.seat).seen c.close-boxed.ensures.opening
    ∙ ap (λ (m : MainView _ _). w.fixed m.seen) c.main.view_is

pub returns-clause-extends : goal.returns-clause-extends
returns-clause-extends g c =
    let w = g.K.Kind.words in
    subst (λ core. Begins w c.args.main.seen core) (sym c.into_core.ensures)
    (subst (λ (m : MainView _ _). Begins w m.seen c.close-boxed.result.core) c.main.view_is
    (seen_begins w c.laws.ensures c.close-boxed.result.core c.recall.ensures (view_of c.main.inside.seat).fixed (view_of c.main.inside.seat).seen c.close-boxed.ensures.extends))

pub returns-clause-ended : goal.returns-clause-ended
returns-clause-ended g c =
    let w = g.K.Kind.words in
    subst (λ core. All (λ e. own_entries w e.0 (w.entries core) ≡ e.1) c.args.main.ended) (sym c.into_core.ensures)
    (subst (λ (m : MainView _ _). All (λ e. own_entries w e.0 (w.entries c.close-boxed.result.core) ≡ e.1) m.ended) c.main.view_is
    (ended_are w c.laws.ensures c.close-boxed.result.core c.recall.ensures (view_of c.main.inside.seat).ended c.close-boxed.ensures.ended))

pub returns-clause-others : goal.returns-clause-others
returns-clause-others g c = λ app out.
    let w = g.K.Kind.words in
    ap (λ core. own_entries w app (w.entries core)) c.into_core.ensures
    ∙ others_none w c.laws.ensures c.close-boxed.result.core c.recall.ensures app (c.close-boxed.ensures.others app (λ there. out (subst (λ (m : MainView _ _). Contains m.apps app) c.main.view_is there)))
