use Rattle.std.proofs.Common.{ap}
use Rattle.sb_calls.specs.Core.{Core}
use Rattle.bus_service.proofs.bus.Bus.new.Goals as goal

pub new-requires-2-clause-empty : goal.new-requires-2-clause-empty
new-requires-2-clause-empty c = ap (λ (k : Core). k.log.entries) c.in_ok-core.ensures

pub new-requires-2-clause-budgets : goal.new-requires-2-clause-budgets
new-requires-2-clause-budgets c = ap (λ (k : Core). k.log.budgets) c.in_ok-core.ensures

pub new-requires-2-clause-views : goal.new-requires-2-clause-views
new-requires-2-clause-views c = ap (λ (k : Core). k.limits.pipes) c.in_ok-core.ensures
