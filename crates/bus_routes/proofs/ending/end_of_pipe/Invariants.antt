-- What stays to the end is what stays now, and the tables belong together.
use Rattle.std.proofs.Common.{◌≡◌, not, eqb, length, filter}
use Rattle.bus_routes.specs.Inside.{AreRouted, ways_of}
use Rattle.bus_routes.proofs.ending.end_of_pipe.Given as goal

abbrev pub invariant-loop-sub : goal.invariant-loop-sub
invariant-loop-sub g l = record {
  routed : AreRouted l.subs l.routes;
  stays : filter (λ s. not (eqb s.pipe l.pipe)) l.subs.live ≡ filter (λ s. not (eqb s.pipe l.pipe)) l.initial.subs.live;
  frame : l.subs ≡ record l.initial.subs { live = l.subs.live };
  same : l.routes ≡ record l.initial.routes { routes = l.routes.routes };
  ways : ways_of l.routes ≡ ways_of l.initial.routes;
}

abbrev pub decreases-loop-sub : goal.decreases-loop-sub
decreases-loop-sub g l = length l.subs.live
