use Rattle.std.proofs.Common.{refl}
use Rattle.host_serve.proofs.PlanEnds.{shown-both}
use Rattle.host_serve.proofs.bridging.tell_sides.Goals as goal

pub returns-in-Ok-clause-end : goal.returns-in-Ok-clause-end
returns-in-Ok-clause-end g c =
    (refl, record { written = c.in-Ok.ensures.ok; shown = shown-both _ _ _ _ _ c.closed.ensures.shown c.closed-2.ensures.shown })

pub returns-in-Err-clause-end : goal.returns-in-Err-clause-end
returns-in-Err-clause-end g c =
    record { front = c.in-Err.ensures.err; cause = c.in-Err.ensures.cause; shown = shown-both _ _ _ _ _ c.closed.ensures.shown c.closed-2.ensures.shown }
