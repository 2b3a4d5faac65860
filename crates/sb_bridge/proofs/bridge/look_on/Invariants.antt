use Rattle.std.proofs.Common.{◌≡◌}
use Rattle.sb_bridge.specs.Ports.{WaitsStill}
use Rattle.sb_bridge.proofs.bridge.look_on.Given as goal

-- it waits still, and made no call since
abbrev pub invariant-loop : goal.invariant-loop
invariant-loop g l =
    (goal.iterator-loop g).can_next l.iterator' × (goal.iterator-loop g).is_finite l.iterator'
    × (l.from.lock ≡ l.bus) × WaitsStill l._pipe l.initial.from l.from l.initial.from.mine
