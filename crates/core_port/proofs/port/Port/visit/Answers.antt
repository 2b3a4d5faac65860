use Rattle.std.proofs.Common.{◌≤◌, length, ap, sym, ◌∙◌, subst, refl}
use Rattle.turn_lock.specs.Seats.{left_view, view_of}
use Rattle.turn_lock.proofs.Callers.{ready_in}
use Rattle.core_port.specs.Histories.{history_of}
use Rattle.core_port.specs.Inside.{BoxedView, seen_in, port_in}
use Rattle.core_port.specs.Ports.{PortView, Answers}
use Rattle.core_port.proofs.TurnsAfterSleep.{entered_from, view_from}
use Rattle.core_port.proofs.TurnFinds.{others_called, may_found}
use Rattle.core_port.proofs.Visits.{known_after, made_one, visited, stays_port, seen_after}
use Rattle.core_port.proofs.port.Port.visit.Goals as goal

pub make-told-requires-clause-may : goal.make-told-requires-clause-may
make-told-requires-clause-may g c =
    let w = g.K.Kind.words in
    let entered = entered_from w (view_of c.self.inside.seat) (view_of c.self.inside.seat) _ _ refl c.value_mut.ensures.value c.begin_awake-turn.ensures.entered in
    may_found w c.laws.ensures c.self.inside.seat c.self.inside.app c.self.inside.permits c.self.invariant c.value_mut.result.now.core entered (g.V.PortCall.call c.args.call c.args.bag.now)
    (subst (λ (p : PortView _ _). w.may p.seen p.app (g.V.PortCall.call c.args.call c.args.bag.now)) (sym c.self.view_is) c.requires.may)

pub make-told-requires-clause-bag : goal.make-told-requires-clause-bag
make-told-requires-clause-bag g c =
    let w = g.K.Kind.words in
    let entered = entered_from w (view_of c.self.inside.seat) (view_of c.self.inside.seat) _ _ refl c.value_mut.ensures.value c.begin_awake-turn.ensures.entered in
    g.met.C.ServedCore.still_has _ c.value_mut.result.now.core c.self.inside.app c.args.bag.now
    (others_called w c.laws.ensures c.self.inside.seat c.self.inside.app c.self.inside.permits c.self.invariant c.value_mut.result.now.core entered)
    (subst (λ (p : PortView _ _). g.C.ServedCore.has_bag p.seen p.app c.args.bag.now) (sym c.self.view_is) c.requires.bag)

pub permits-requires : goal.permits-requires
permits-requires g c =
    let w = g.K.Kind.words in
    let entered = entered_from w (view_of c.self.inside.seat) (view_of c.self.inside.seat) _ _ refl c.value_mut.ensures.value c.begin_awake-turn.ensures.entered in
    subst (λ (k : BoxedView _). c.self.inside.app ≤ length (w.fixed k.core).budgets) (sym c.value.ensures)
    (known_after w c.laws.ensures c.self.inside.seat c.self.inside.app c.self.inside.permits c.self.invariant c.value_mut.result.now.core entered
    c.make-told.new.self.core (g.V.PortCall.call c.args.call c.args.bag.now) (g.V.PortCall.answer c.make-told.result) c.make-told.ensures.does)

pub finish-requires-clause-made : goal.finish-requires-clause-made
finish-requires-clause-made g c =
    let w = g.K.Kind.words in
    let entered = entered_from w (view_of c.self.inside.seat) (view_of c.self.inside.seat) _ _ refl c.value_mut.ensures.value c.begin_awake-turn.ensures.entered in
    made_one w c.laws.ensures c.self.inside.seat c.self.inside.app c.self.inside.permits c.self.invariant c.value_mut.result.now.core entered
    c.make-told.new.self.core (g.V.PortCall.call c.args.call c.args.bag.now) (g.V.PortCall.answer c.make-told.result) c.make-told.ensures.does c.begin_awake-turn.result.view c.make-told.new.self.core
    (view_from w (view_of c.self.inside.seat) (view_of c.self.inside.seat) _ _ refl c.value_mut.ensures.value _ c.begin_awake-turn.ensures.view) refl

pub invariant_of-self : goal.invariant_of-self
invariant_of-self g c =
    let w = g.K.Kind.words in
    let entered = entered_from w (view_of c.self.inside.seat) (view_of c.self.inside.seat) _ _ refl c.value_mut.ensures.value c.begin_awake-turn.ensures.entered in
    let view = view_from w (view_of c.self.inside.seat) (view_of c.self.inside.seat) _ _ refl c.value_mut.ensures.value _ c.begin_awake-turn.ensures.view in
    let new = c.make-told.new.self.core in
    stays_port w c.laws.ensures c.self.inside.seat c.self.inside.app c.self.inside.permits c.self.invariant c.value_mut.result.now.core entered
    new (g.V.PortCall.call c.args.call c.args.bag.now) (g.V.PortCall.answer c.make-told.result) c.make-told.ensures.does c.finish.ensures.sound
    c.finish.new.seat (c.finish.ensures.view ∙ ap (λ v. left_view v (history_of w new)) view)
    c.permits.result c.args.service.now (ready_in c.finish.new.seat c.args.service.now c.finish.ensures.seat)
    (subst (λ (k : BoxedView _). w.tells k.core c.self.inside.app c.permits.result) c.value.ensures c.permits.ensures)

pub returns-clause-answers : goal.returns-clause-answers
returns-clause-answers g c =
    let w = g.K.Kind.words in
    let entered = entered_from w (view_of c.self.inside.seat) (view_of c.self.inside.seat) _ _ refl c.value_mut.ensures.value c.begin_awake-turn.ensures.entered in
    let view = view_from w (view_of c.self.inside.seat) (view_of c.self.inside.seat) _ _ refl c.value_mut.ensures.value _ c.begin_awake-turn.ensures.view in
    let new = c.make-told.new.self.core in
    let call = g.V.PortCall.call c.args.call c.args.bag.now in
    let answer = g.V.PortCall.answer c.make-told.result in
    let lock = c.finish.ensures.seat.lock ∙ sym (ap (λ (p : PortView _ _). p.lock) c.self.view_is ∙ c.requires.service) in
    subst (λ (p : PortView _ _). Answers w p (port_in w c.finish.new.seat c.self.inside.app) call answer) c.self.view_is
    (visited w c.laws.ensures c.self.inside.seat c.self.inside.app c.self.inside.permits c.self.invariant c.value_mut.result.now.core entered
    new call answer c.make-told.ensures.does c.finish.ensures.sound
    c.finish.new.seat (c.finish.ensures.view ∙ ap (λ v. left_view v (history_of w new)) view) lock)

pub returns-clause-bag : goal.returns-clause-bag
returns-clause-bag g c =
    let w = g.K.Kind.words in
    let entered = entered_from w (view_of c.self.inside.seat) (view_of c.self.inside.seat) _ _ refl c.value_mut.ensures.value c.begin_awake-turn.ensures.entered in
    let view = view_from w (view_of c.self.inside.seat) (view_of c.self.inside.seat) _ _ refl c.value_mut.ensures.value _ c.begin_awake-turn.ensures.view in
    let new = c.make-told.new.self.core in
    let seen = seen_after w c.laws.ensures c.self.inside.seat c.self.inside.app c.self.inside.permits c.self.invariant c.value_mut.result.now.core entered
    new (g.V.PortCall.call c.args.call c.args.bag.now) (g.V.PortCall.answer c.make-told.result) c.make-told.ensures.does c.finish.ensures.sound
    c.finish.new.seat (c.finish.ensures.view ∙ ap (λ v. left_view v (history_of w new)) view) in
    subst (λ (p : PortView _ _). g.C.ServedCore.has_bag (seen_in w c.finish.new.seat) p.app c.make-told.new.bag) c.self.view_is
    (subst (λ k. g.C.ServedCore.has_bag k c.self.inside.app c.make-told.new.bag) (sym seen) c.make-told.ensures.bag)
