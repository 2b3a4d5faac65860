use Rattle.std.proofs.Common.{◌≡◌, ◌∙◌, ◌&&◌, Bool, true, false, true≢false, refl, ap, sym, subst, Some, if◌then◌else◌}
use Rattle.turn_lock.specs.Seats.{AddsOwn}
use Rattle.turn_lock.proofs.Callers.{adds_one}
use Rattle.core_port.specs.Histories.{history_of}
use Rattle.core_port.specs.Inside.{BoxedView}
use Rattle.core_port.proofs.turns.finish.Goals as goal

both : (a b : Bool) → (a && b) ≡ true → (a ≡ true) × (b ≡ true)
both true b is = (refl, is)
both false b is = absurd (true≢false (sym is))

not_both : (a b : Bool) → (a && b) ≡ false → a ≡ true → b ≡ false
not_both true b is on = is
not_both false b is on = absurd (true≢false (sym on))

pub leave_and_wake-requires-clause-opening : goal.leave_and_wake-requires-clause-opening
leave_and_wake-requires-clause-opening g c =
    ap (λ k. Some (g.K.Kind.words.fixed k)) (c.take_sleepers.ensures.core ∙ ap (λ (k : BoxedView _). k.core) c.value_mut.ensures.value) ∙ c.requires.made.opening

pub leave_and_wake-requires-clause-own : goal.leave_and_wake-requires-clause-own
leave_and_wake-requires-clause-own g c =
    subst (λ k. AddsOwn c.args.turn.view (history_of g.K.Kind.words k)) (sym (c.take_sleepers.ensures.core ∙ ap (λ (k : BoxedView _). k.core) c.value_mut.ensures.value))
    (adds_one c.args.turn.view (history_of g.K.Kind.words c.args.turn.value.core) c.args.turn.view.app c.requires.made.call refl c.requires.made.entry)

pub leave_and_wake-requires-clause-slept : goal.leave_and_wake-requires-clause-slept
leave_and_wake-requires-clause-slept g c =
    sym c.requires.asleep
    ∙ sym (ap (λ (k : BoxedView _). k.asleep) c.value_mut.ensures.value)
    ∙ (both c.value_mut.result.now.asleep (g.K.Kind.words.news c.value_mut.result.now.core) (sym c.take_sleepers.ensures.woken ∙ c.if-take_sleepers.true)).0

pub leave_and_wake-requires-clause-awaited : goal.leave_and_wake-requires-clause-awaited
leave_and_wake-requires-clause-awaited g c = c.take_sleepers.ensures.asleep ∙ ap (λ (b : Bool). if b then false else c.value_mut.result.now.asleep) c.if-take_sleepers.true

pub leave_and_wake-requires-clause-news : goal.leave_and_wake-requires-clause-news
leave_and_wake-requires-clause-news g c =
    ap (λ k. g.K.Kind.words.news k) c.take_sleepers.ensures.core
    ∙ (both c.value_mut.result.now.asleep (g.K.Kind.words.news c.value_mut.result.now.core) (sym c.take_sleepers.ensures.woken ∙ c.if-take_sleepers.true)).1

pub leave-requires-clause-opening : goal.leave-requires-clause-opening
leave-requires-clause-opening g c =
    ap (λ k. Some (g.K.Kind.words.fixed k)) (c.take_sleepers.ensures.core ∙ ap (λ (k : BoxedView _). k.core) c.value_mut.ensures.value) ∙ c.requires.made.opening

pub leave-requires-clause-own : goal.leave-requires-clause-own
leave-requires-clause-own g c =
    subst (λ k. AddsOwn c.args.turn.view (history_of g.K.Kind.words k)) (sym (c.take_sleepers.ensures.core ∙ ap (λ (k : BoxedView _). k.core) c.value_mut.ensures.value))
    (adds_one c.args.turn.view (history_of g.K.Kind.words c.args.turn.value.core) c.args.turn.view.app c.requires.made.call refl c.requires.made.entry)

pub leave-requires-clause-awaited : goal.leave-requires-clause-awaited
leave-requires-clause-awaited g c =
    c.take_sleepers.ensures.asleep
    ∙ ap (λ (b : Bool). if b then false else c.value_mut.result.now.asleep) c.if-take_sleepers.false
    ∙ ap (λ (k : BoxedView _). k.asleep) c.value_mut.ensures.value
    ∙ c.requires.asleep

pub leave-requires-clause-no_news : goal.leave-requires-clause-no_news
leave-requires-clause-no_news g c = λ on.
    let kept = c.take_sleepers.ensures.asleep ∙ ap (λ (b : Bool). if b then false else c.value_mut.result.now.asleep) c.if-take_sleepers.false in
    ap (λ k. g.K.Kind.words.news k) c.take_sleepers.ensures.core
    ∙ not_both c.value_mut.result.now.asleep (g.K.Kind.words.news c.value_mut.result.now.core) (sym c.take_sleepers.ensures.woken ∙ c.if-take_sleepers.false) (sym kept ∙ on)
