use Rattle.std.proofs.Common.{◌∙◌, ◌++◌, ◌∷◌, [], ap, ap₂, sym, subst, Contains}
use Rattle.turn_lock.specs.Seats.{view_of}
use Rattle.turn_lock.specs.Views.{entries_of}
use Rattle.turn_lock.proofs.lock.TurnLock.join.Goals as goal

pub returns-clause-ended : goal.returns-clause-ended
returns-clause-ended g c =
    ap (λ s. (view_of s).ended) c.of.ensures ∙ (ap (λ m. m.0.ended) c.meet.ensures.met.0 ∙ (ap (λ m. m.0.ended) c.glue.ensures.glued ∙ ap₂ (λ v w. v.ended ++ (w.app, w.mine) ∷ []) c.take_place-place.ensures.knows c.into_place.ensures.knows))

pub returns-clause-others : goal.returns-clause-others
returns-clause-others g c = λ app out.
    let now = ap view_of c.of.ensures in
    let apps = ap (λ v. v.apps) now ∙ ap (λ m. m.0.apps) c.meet.ensures.met.0 in
    ap (λ v. entries_of app v.seen) now ∙ c.meet.ensures.met.2 app (λ there. out (subst (λ l. Contains l app) (sym apps) there))
