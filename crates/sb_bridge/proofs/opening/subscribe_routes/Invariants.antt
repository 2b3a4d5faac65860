use Rattle.std.proofs.Common.{take}
use Rattle.sb_bridge.specs.Openings.{HasCalled, subscriptions}
use Rattle.sb_bridge.proofs.opening.subscribe_routes.Given as goal

-- the routes so far
abbrev pub invariant-loop-i : goal.invariant-loop-i
invariant-loop-i g l = HasCalled l.initial.port l.port (subscriptions l.pipe (take l.i l.plan.routes))
