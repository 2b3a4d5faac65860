use Rattle.std.proofs.Common.{◌≡◌, ◌-◌, drop, length}
use Rattle.run_check.specs.Places.{passed}
use Rattle.bus_replay.specs.Places.{place_of}
use Rattle.bus_replay.proofs.place.AppPlace.pass.Given as goal

-- what it goes past from here on is what is left of it
abbrev pub invariant-loop-alloc : goal.invariant-loop-alloc
invariant-loop-alloc l =
    passed l.who l.bus.whole.bus (drop l.self.place l.app.lines) (place_of l.self)
    ≡ passed l.who l.bus.whole.bus (drop l.initial.self.place l.app.lines) (place_of l.initial.self)

abbrev pub decreases-loop-alloc : goal.decreases-loop-alloc
decreases-loop-alloc l = length l.app.lines - l.self.place
