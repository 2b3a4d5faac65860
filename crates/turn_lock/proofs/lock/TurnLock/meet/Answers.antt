use Rattle.std.proofs.Common.{◌≡◌, ◌∙◌, ◌++◌, ◌∷◌, [], ap, ap₂, sym, subst, All, Contains}
use Rattle.std.proofs.lemmas.List.Elements.{All-head}
use mathlib.Core.List.{IsPrefix}
use Rattle.turn_lock.specs.Seats.{view_of}
use Rattle.turn_lock.specs.Views.{entries_of}
use Rattle.turn_lock.proofs.SeatKnowledge.{resumed}
use Rattle.turn_lock.proofs.lock.TurnLock.meet.Goals as goal

pub returns-clause-others : goal.returns-clause-others
returns-clause-others g c = λ app out.
    let apps = ap (λ s. (view_of s).apps) c.of-2.ensures ∙ (ap (λ m. m.0.apps) c.resume.ensures.main ∙ ap (λ m. m.0.apps) c.meet.ensures.met.0) in
    let seen = ap (λ s. (view_of s).seen) c.of-2.ensures ∙ ap (λ m. m.0.seen) c.resume.ensures.main in
    ap (entries_of app) seen ∙ c.meet.ensures.met.2 app (λ there. out (subst (λ l. Contains l app) (sym apps) there))

pub returns-clause-own : goal.returns-clause-own
returns-clause-own g c =
    let its = view_of c.args.seat.now in
    let seen = ap (λ s. (view_of s).seen) c.of-2.ensures ∙ ap (λ m. m.0.seen) c.resume.ensures.main in
    let ended = ap (λ m. m.0.ended) c.glue.ensures.glued ∙ (ap₂ (λ v w. v.ended ++ (w.app, w.mine) ∷ []) c.take_place-home.ensures.knows c.take_place-other.ensures.knows ∙ ap (λ l. l ++ (its.app, its.mine) ∷ []) c.requires.none) in
    subst (λ l. IsPrefix (entries_of its.app l) its.mine) (sym seen)
    (All-head (λ e. IsPrefix (entries_of e.0 c.meet.new.main.me.0.seen) e.1) (its.app, its.mine) [] (subst (All (λ e. IsPrefix (entries_of e.0 c.meet.new.main.me.0.seen) e.1)) ended c.meet.ensures.met.3))

pub returns-clause-stays : goal.returns-clause-stays
returns-clause-stays g c =
    ap view_of c.of.ensures
    ∙ resumed c.args.main.now c.args.seat.now c.take_place-home.result.me.0 c.take_place-other.result.me.0 c.glue.new.main.me.0 c.meet.new.main.me.0 c.resume.result.me.0
    c.take_place-home.ensures.knows c.take_place-other.ensures.knows (ap (λ m. m.0) c.glue.ensures.glued) (ap (λ m. m.0) c.meet.ensures.met.0) (ap (λ m. m.0) c.resume.ensures.new.1) c.requires.none
