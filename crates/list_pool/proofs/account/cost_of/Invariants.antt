use Rattle.std.proofs.Common.{◌≡◌, ◌+◌, ◌*◌, ◌^◌, ◌≤◌, drop}
use Rattle.fsw_base.specs.PoolAccounts.{cost_of}
use Rattle.list_pool.proofs.account.cost_of.Given as goal

-- what is left makes up the sum, and each size has added little
abbrev pub invariant-loop-class : goal.invariant-loop-class
invariant-loop-class l = record {
  all : l.cost + cost_of (drop l.class l.made.items) (drop l.class l.sizes) ≡ cost_of l.made.items l.sizes;
  few : l.cost ≤ l.class * (2 ^ 32 * 80016);
}
