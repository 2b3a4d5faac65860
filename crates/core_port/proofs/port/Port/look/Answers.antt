use Rattle.std.proofs.Common.{◌≤◌, Bool, true, length, Some, ap, sym, ◌∙◌, subst, refl}
use Rattle.turn_lock.specs.Seats.{view_of, entered_view, left_view}
use Rattle.turn_lock.proofs.Callers.{ready_in}
use Rattle.core_port.specs.Histories.{history_of}
use Rattle.core_port.specs.Inside.{BoxedView, port_in, seen_in}
use Rattle.core_port.specs.Ports.{PortView, AnswersLook, look_entries}
use Rattle.core_port.proofs.TurnsAfterSleep.{entered_from, view_from}
use Rattle.core_port.proofs.TurnFinds.{others_called, known_found, may_found}
use Rattle.core_port.proofs.Visits.{known_after, made_one, looked, stays_port, seen_after, seen_idle, idle, stays_idle}
use Rattle.core_port.proofs.port.Port.look.Goals as goal

pub look-told-requires-clause-may : goal.look-told-requires-clause-may
look-told-requires-clause-may g c =
    let w = g.K.Kind.words in
    let s = c.self.inside.seat in
    let app = c.self.inside.app in
    let old = c.value_mut.result.now.core in
    let entered = entered_from w _ _ _ _ c.sleep.ensures.view c.value_mut.ensures.value c.begin-turn.ensures.entered in
    let others = others_called w c.laws.ensures s app c.self.inside.permits c.self.invariant old entered in
    subst (λ call. w.may old app call) (sym (c.look_laws.ensures.same_call (seen_in w s) old app c.self.invariant.first others))
    (may_found w c.laws.ensures s app c.self.inside.permits c.self.invariant old entered (g.V.PortLook.call (seen_in w s) app)
    (subst (λ (p : PortView _ _). w.may p.seen p.app (g.V.PortLook.call p.seen p.app)) (sym c.self.view_is) c.requires.may))

pub look-told-requires-clause-bag : goal.look-told-requires-clause-bag
look-told-requires-clause-bag g c =
    let w = g.K.Kind.words in
    let s = c.self.inside.seat in
    let app = c.self.inside.app in
    let old = c.value_mut.result.now.core in
    let entered = entered_from w _ _ _ _ c.sleep.ensures.view c.value_mut.ensures.value c.begin-turn.ensures.entered in
    g.met.C.ServedCore.still_has (seen_in w s) old app c.args.bag.now
    (others_called w c.laws.ensures s app c.self.inside.permits c.self.invariant old entered)
    (subst (λ (p : PortView _ _). g.C.ServedCore.has_bag p.seen p.app c.args.bag.now) (sym c.self.view_is) c.requires.bag)

-- In vain. --

pub permits-requires : goal.permits-requires
permits-requires g c =
    let w = g.K.Kind.words in
    let entered = entered_from w _ _ _ _ c.sleep.ensures.view c.value_mut.ensures.value c.begin-turn.ensures.entered in
    let vain = sym c.is_vain.ensures ∙ c.if-is_vain.true in
    subst (λ (k : BoxedView _). c.self.inside.app ≤ length (w.fixed k.core).budgets) (sym c.value.ensures)
    (subst (λ core. c.self.inside.app ≤ length (w.fixed core).budgets) (sym (c.look_laws.ensures.in_vain c.value_mut.result.now.core c.look-told.new.self.core c.self.inside.app c.look-told.result c.look-told.ensures.looks (sym c.is_vain.ensures ∙ c.if-is_vain.true)))
    (known_found w c.laws.ensures c.self.inside.seat c.self.inside.app c.self.inside.permits c.self.invariant c.value_mut.result.now.core entered))

pub pause-requires-clause-opening : goal.pause-requires-clause-opening
pause-requires-clause-opening g c =
    let w = g.K.Kind.words in
    let entered = entered_from w _ _ _ _ c.sleep.ensures.view c.value_mut.ensures.value c.begin-turn.ensures.entered in
    let view = view_from w _ _ _ _ c.sleep.ensures.view c.value_mut.ensures.value _ c.begin-turn.ensures.view in
    let vain = sym c.is_vain.ensures ∙ c.if-is_vain.true in
    ap (λ core. Some (w.fixed core)) (c.look_laws.ensures.in_vain c.value_mut.result.now.core c.look-told.new.self.core c.self.inside.app c.look-told.result c.look-told.ensures.looks (sym c.is_vain.ensures ∙ c.if-is_vain.true)) ∙ entered.opening ∙ sym (ap (λ v. v.fixed) view)

pub pause-requires-clause-none : goal.pause-requires-clause-none
pause-requires-clause-none g c =
    let w = g.K.Kind.words in
    let view = view_from w _ _ _ _ c.sleep.ensures.view c.value_mut.ensures.value _ c.begin-turn.ensures.view in
    let vain = sym c.is_vain.ensures ∙ c.if-is_vain.true in
    ap (history_of w) (c.look_laws.ensures.in_vain c.value_mut.result.now.core c.look-told.new.self.core c.self.inside.app c.look-told.result c.look-told.ensures.looks (sym c.is_vain.ensures ∙ c.if-is_vain.true)) ∙ sym (ap (λ v. v.seen) view)

pub invariant_of-self : goal.invariant_of-self
invariant_of-self g c =
    let w = g.K.Kind.words in
    let s = c.self.inside.seat in
    let app = c.self.inside.app in
    let old = c.value_mut.result.now.core in
    let new = c.look-told.new.self.core in
    let entered = entered_from w _ _ _ _ c.sleep.ensures.view c.value_mut.ensures.value c.begin-turn.ensures.entered in
    let view = view_from w _ _ _ _ c.sleep.ensures.view c.value_mut.ensures.value _ c.begin-turn.ensures.view in
    let still = c.look_laws.ensures.in_vain c.value_mut.result.now.core c.look-told.new.self.core c.self.inside.app c.look-told.result c.look-told.ensures.looks (sym c.is_vain.ensures ∙ c.if-is_vain.true) in
    let now = c.pause.ensures.view ∙ ap (λ v. left_view v (history_of w new)) view ∙ ap (λ core. left_view (entered_view (view_of s) (history_of w old)) (history_of w core)) still in
    stays_idle w c.laws.ensures s app c.self.inside.permits c.self.invariant old entered c.pause.new.seat now c.permits.result c.args.service.now c.pause.ensures.seat
    (subst (λ core. w.tells core app c.permits.result) (ap (λ (k : BoxedView _). k.core) c.value.ensures ∙ still) c.permits.ensures)

pub returns-then-is_vain-clause-answers : goal.returns-then-is_vain-clause-answers
returns-then-is_vain-clause-answers g c =
    let w = g.K.Kind.words in
    let s = c.self.inside.seat in
    let app = c.self.inside.app in
    let old = c.value_mut.result.now.core in
    let new = c.look-told.new.self.core in
    let answer = g.V.PortLook.answer c.look-told.result in
    let vain = sym c.is_vain.ensures ∙ c.if-is_vain.true in
    let entered = entered_from w _ _ _ _ c.sleep.ensures.view c.value_mut.ensures.value c.begin-turn.ensures.entered in
    let view = view_from w _ _ _ _ c.sleep.ensures.view c.value_mut.ensures.value _ c.begin-turn.ensures.view in
    let still = (c.look_laws.ensures.in_vain c.value_mut.result.now.core c.look-told.new.self.core c.self.inside.app c.look-told.result c.look-told.ensures.looks (sym c.is_vain.ensures ∙ c.if-is_vain.true)) in
    let now = c.pause.ensures.view ∙ ap (λ v. left_view v (history_of w new)) view ∙ ap (λ core. left_view (entered_view (view_of s) (history_of w old)) (history_of w core)) still in
    let lock = c.pause.ensures.seat.lock ∙ sym (ap (λ (p : PortView _ _). p.lock) c.self.view_is ∙ c.requires.service) in
    subst (λ (p : PortView _ _). AnswersLook w p (port_in w c.pause.new.seat app) (λ x y. g.V.PortLook.looks x y p.app c.look-told.result) (look_entries w p.app (g.V.PortLook.call p.seen p.app) answer (g.V.PortLook.vain c.look-told.result))) c.self.view_is
    (subst (λ (b : Bool). AnswersLook w (port_in w s app) (port_in w c.pause.new.seat app) (λ x y. g.V.PortLook.looks x y app c.look-told.result) (look_entries w app (g.V.PortLook.call (seen_in w s) app) answer b)) (sym vain)
    (idle w c.laws.ensures s app c.self.inside.permits c.self.invariant old entered c.pause.new.seat now new (λ x y. g.V.PortLook.looks x y app c.look-told.result) still c.look-told.ensures.looks lock))

pub returns-then-is_vain-clause-bag : goal.returns-then-is_vain-clause-bag
returns-then-is_vain-clause-bag g c =
    let w = g.K.Kind.words in
    let s = c.self.inside.seat in
    let app = c.self.inside.app in
    let old = c.value_mut.result.now.core in
    let new = c.look-told.new.self.core in
    let entered = entered_from w _ _ _ _ c.sleep.ensures.view c.value_mut.ensures.value c.begin-turn.ensures.entered in
    let view = view_from w _ _ _ _ c.sleep.ensures.view c.value_mut.ensures.value _ c.begin-turn.ensures.view in
    let still = c.look_laws.ensures.in_vain c.value_mut.result.now.core c.look-told.new.self.core c.self.inside.app c.look-told.result c.look-told.ensures.looks (sym c.is_vain.ensures ∙ c.if-is_vain.true) in
    let now = c.pause.ensures.view ∙ ap (λ v. left_view v (history_of w new)) view ∙ ap (λ core. left_view (entered_view (view_of s) (history_of w old)) (history_of w core)) still in
    subst (λ (p : PortView _ _). g.C.ServedCore.has_bag (seen_in w c.pause.new.seat) p.app c.look-told.new.bag) c.self.view_is
    (subst (λ core. g.C.ServedCore.has_bag core app c.look-told.new.bag) (still ∙ sym (seen_idle w c.laws.ensures s app c.self.inside.permits c.self.invariant old entered c.pause.new.seat now)) c.look-told.ensures.bag)

-- With news. --

pub permits-requires-2 : goal.permits-requires-2
permits-requires-2 g c =
    let w = g.K.Kind.words in
    let entered = entered_from w _ _ _ _ c.sleep.ensures.view c.value_mut.ensures.value c.begin-turn.ensures.entered in
    let found = sym c.is_vain.ensures ∙ c.if-is_vain.false in
    subst (λ (k : BoxedView _). c.self.inside.app ≤ length (w.fixed k.core).budgets) (sym c.value-2.ensures)
    (known_after w c.laws.ensures c.self.inside.seat c.self.inside.app c.self.inside.permits c.self.invariant c.value_mut.result.now.core entered
    c.look-told.new.self.core (g.V.PortLook.call c.value_mut.result.now.core c.self.inside.app) (g.V.PortLook.answer c.look-told.result) (c.look_laws.ensures.found c.value_mut.result.now.core c.look-told.new.self.core c.self.inside.app c.look-told.result c.look-told.ensures.looks (sym c.is_vain.ensures ∙ c.if-is_vain.false)))

pub finish-requires-clause-made : goal.finish-requires-clause-made
finish-requires-clause-made g c =
    let w = g.K.Kind.words in
    let old = c.value_mut.result.now.core in
    let new = c.look-told.new.self.core in
    let entered = entered_from w _ _ _ _ c.sleep.ensures.view c.value_mut.ensures.value c.begin-turn.ensures.entered in
    let view = view_from w _ _ _ _ c.sleep.ensures.view c.value_mut.ensures.value _ c.begin-turn.ensures.view in
    let found = sym c.is_vain.ensures ∙ c.if-is_vain.false in
    made_one w c.laws.ensures c.self.inside.seat c.self.inside.app c.self.inside.permits c.self.invariant old entered
    new (g.V.PortLook.call old c.self.inside.app) (g.V.PortLook.answer c.look-told.result) (c.look_laws.ensures.found c.value_mut.result.now.core c.look-told.new.self.core c.self.inside.app c.look-told.result c.look-told.ensures.looks (sym c.is_vain.ensures ∙ c.if-is_vain.false)) c.begin-turn.result.view new view refl

pub invariant_of-self-2 : goal.invariant_of-self-2
invariant_of-self-2 g c =
    let w = g.K.Kind.words in
    let s = c.self.inside.seat in
    let app = c.self.inside.app in
    let old = c.value_mut.result.now.core in
    let new = c.look-told.new.self.core in
    let entered = entered_from w _ _ _ _ c.sleep.ensures.view c.value_mut.ensures.value c.begin-turn.ensures.entered in
    let view = view_from w _ _ _ _ c.sleep.ensures.view c.value_mut.ensures.value _ c.begin-turn.ensures.view in
    stays_port w c.laws.ensures s app c.self.inside.permits c.self.invariant old entered
    new (g.V.PortLook.call old app) (g.V.PortLook.answer c.look-told.result) (c.look_laws.ensures.found c.value_mut.result.now.core c.look-told.new.self.core c.self.inside.app c.look-told.result c.look-told.ensures.looks (sym c.is_vain.ensures ∙ c.if-is_vain.false)) c.finish.ensures.sound
    c.finish.new.seat (c.finish.ensures.view ∙ ap (λ v. left_view v (history_of w new)) view)
    c.permits-2.result c.args.service.now (ready_in c.finish.new.seat c.args.service.now c.finish.ensures.seat)
    (subst (λ (k : BoxedView _). w.tells k.core app c.permits-2.result) c.value-2.ensures c.permits-2.ensures)

pub returns-clause-answers : goal.returns-clause-answers
returns-clause-answers g c =
    let w = g.K.Kind.words in
    let s = c.self.inside.seat in
    let app = c.self.inside.app in
    let old = c.value_mut.result.now.core in
    let new = c.look-told.new.self.core in
    let seen = seen_in w s in
    let answer = g.V.PortLook.answer c.look-told.result in
    let entered = entered_from w _ _ _ _ c.sleep.ensures.view c.value_mut.ensures.value c.begin-turn.ensures.entered in
    let view = view_from w _ _ _ _ c.sleep.ensures.view c.value_mut.ensures.value _ c.begin-turn.ensures.view in
    let found = sym c.is_vain.ensures ∙ c.if-is_vain.false in
    let others = others_called w c.laws.ensures s app c.self.inside.permits c.self.invariant old entered in
    let does = subst (λ call. w.does old new app call answer) (c.look_laws.ensures.same_call seen old app c.self.invariant.first others) (c.look_laws.ensures.found c.value_mut.result.now.core c.look-told.new.self.core c.self.inside.app c.look-told.result c.look-told.ensures.looks (sym c.is_vain.ensures ∙ c.if-is_vain.false)) in
    let lock = c.finish.ensures.seat.lock ∙ sym (ap (λ (p : PortView _ _). p.lock) c.self.view_is ∙ c.requires.service) in
    let after = c.finish.ensures.view ∙ ap (λ v. left_view v (history_of w new)) view in
    subst (λ (p : PortView _ _). AnswersLook w p (port_in w c.finish.new.seat app) (λ x y. g.V.PortLook.looks x y p.app c.look-told.result) (look_entries w p.app (g.V.PortLook.call p.seen p.app) answer (g.V.PortLook.vain c.look-told.result))) c.self.view_is
    (looked w c.laws.ensures s app c.self.inside.permits c.self.invariant old entered
    new (g.V.PortLook.call seen app) answer does c.finish.ensures.sound c.finish.new.seat after
    (λ x y. g.V.PortLook.looks x y app c.look-told.result) (g.V.PortLook.vain c.look-told.result) found c.look-told.ensures.looks lock)

pub returns-clause-bag : goal.returns-clause-bag
returns-clause-bag g c =
    let w = g.K.Kind.words in
    let s = c.self.inside.seat in
    let app = c.self.inside.app in
    let old = c.value_mut.result.now.core in
    let new = c.look-told.new.self.core in
    let entered = entered_from w _ _ _ _ c.sleep.ensures.view c.value_mut.ensures.value c.begin-turn.ensures.entered in
    let view = view_from w _ _ _ _ c.sleep.ensures.view c.value_mut.ensures.value _ c.begin-turn.ensures.view in
    let found = sym c.is_vain.ensures ∙ c.if-is_vain.false in
    let now_seen = seen_after w c.laws.ensures s app c.self.inside.permits c.self.invariant old entered
    new (g.V.PortLook.call old app) (g.V.PortLook.answer c.look-told.result) (c.look_laws.ensures.found c.value_mut.result.now.core c.look-told.new.self.core c.self.inside.app c.look-told.result c.look-told.ensures.looks (sym c.is_vain.ensures ∙ c.if-is_vain.false)) c.finish.ensures.sound
    c.finish.new.seat (c.finish.ensures.view ∙ ap (λ v. left_view v (history_of w new)) view) in
    subst (λ (p : PortView _ _). g.C.ServedCore.has_bag (seen_in w c.finish.new.seat) p.app c.look-told.new.bag) c.self.view_is
    (subst (λ core. g.C.ServedCore.has_bag core app c.look-told.new.bag) (sym now_seen) c.look-told.ensures.bag)
