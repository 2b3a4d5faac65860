use Rattle.std.proofs.Common.{refl, sym, ap}
use Rattle.turn_lock.proofs.SeatKnowledge.{grows}
use Rattle.turn_lock.specs.Inside.{known}
use Rattle.turn_lock.proofs.lock.TurnLock.give_back.Goals as goal

pub pass-requires-clause-grows : goal.pass-requires-clause-grows
pass-requires-clause-grows g c =
    grows c.args.place.me.0 c.give.new.place.me.0 (known c.args.place.me.0) g.N.TurnEnd.log g.N.TurnEnd.log
    (ap (λ m. m.0) c.give.ensures.given) refl refl c.requires.own
