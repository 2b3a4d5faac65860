use Rattle.std.proofs.Common.{◌≡◌}
use Rattle.bus_example.proofs.threads.look.Given as goal

abbrev pub invariant-loop : goal.invariant-loop
invariant-loop g l = l.port.lock ≡ l.initial.port.lock
