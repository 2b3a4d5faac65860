use Rattle.std.proofs.Common.{sym, subst}
use Rattle.turn_lock.specs.Seats.{AreAllJoined}
use Rattle.turn_lock.proofs.lock.TurnLock.close.Goals as goal

pub close-requires-clause-joined : goal.close-requires-clause-joined
close-requires-clause-joined g c = subst AreAllJoined (sym c.into_place.ensures.knows) c.requires.joined
