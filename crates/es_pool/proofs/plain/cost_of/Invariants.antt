use Rattle.std.proofs.Common.{◌≡◌, ◌+◌, drop}
use Rattle.fsw_base.specs.PoolAccounts.{cost_of}
use Rattle.es_pool.proofs.plain.cost_of.Given as goal

abbrev pub invariant-loop-class : goal.invariant-loop-class
invariant-loop-class l = l.cost + cost_of (drop l.class l.made.items) (drop l.class l.sizes) ≡ cost_of l.made.items l.sizes
