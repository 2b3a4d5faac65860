use Rattle.std.proofs.Common.{subst, All}
use Rattle.turn_lock.specs.declared.seat.Rest.{Rest}
use Rattle.turn_lock.specs.declared.view.View.{View}
use Rattle.turn_lock.specs.Inside.{Recalls}
use Rattle.turn_lock.proofs.seat.Seat.skip_rest.Goals as goal

pub invariant_of-self : goal.invariant_of-self
invariant_of-self g c = (
  c.self.invariant.0,
  subst (λ (r : Rest). All (λ (v : View g.row.F.Denot g.row.E.Denot). Recalls r v.heard) c.self.inside.badge.views) c.in-Due.is c.self.invariant.1,
)
