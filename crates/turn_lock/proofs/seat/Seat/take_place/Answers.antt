use Rattle.std.proofs.Common.{◌≡◌, ◌∙◌, ◌∷◌, [], map, ap, sym, subst}
use Rattle.turn_lock.specs.Seats.{SeatView, view_of, first_view}
use Rattle.turn_lock.specs.Inside.{known}
use Rattle.turn_lock.proofs.SeatKnowledge.{one_seat, knows_first, main_first, away_first}
use Rattle.turn_lock.proofs.seat.Seat.take_place.Goals as goal

pub into_seat-requires : goal.into_seat-requires
into_seat-requires g c =
    let views = c.self.inside.badge.views in
    let o = one_seat views (first_view (map known views)) (subst (λ (s : SeatView g.row.F.Denot g.row.E.Denot). s.knows ≡ view_of s ∷ []) (sym c.self.view_is) c.requires) in
    (o.0, ap (λ b. b.views) c.replace.ensures.value ∙ o.1)

pub returns-clause-knows : goal.returns-clause-knows
returns-clause-knows g c = knows_first c.self.inside.badge.views c.into_seat.result.me.0 (ap (λ b. b.views) (sym c.replace.ensures.value) ∙ c.into_seat.ensures.2) ∙ ap view_of c.self.view_is

pub returns-clause-main : goal.returns-clause-main
returns-clause-main g c = λ main. main_first c.self.inside.badge.views c.into_seat.result.me.0 (ap (λ b. b.views) (sym c.replace.ensures.value) ∙ c.into_seat.ensures.2) c.self.invariant.0 (ap (λ s. (view_of s).main) c.self.view_is ∙ main)

pub returns-clause-away : goal.returns-clause-away
returns-clause-away g c = λ main. away_first c.self.inside.badge.views c.into_seat.result.me.0 (ap (λ b. b.views) (sym c.replace.ensures.value) ∙ c.into_seat.ensures.2) c.self.invariant.0 (ap (λ s. (view_of s).main) c.self.view_is ∙ main)
