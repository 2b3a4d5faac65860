use Rattle.sb_bridge.specs.Works.{MayBridge}
use Rattle.sb_bridge.proofs.bridge.run_one.Given as goal

-- what the pipe gave was sent, and the bridge may end on both sides
abbrev pub invariant-loop : goal.invariant-loop
invariant-loop g l =
    (goal.iterator-loop g).can_next l.iterator' × (goal.iterator-loop g).is_finite l.iterator'
    × MayBridge (record { crossing = l.crossing; from = l.from; to = l.to })
