use Rattle.std.proofs.Common.{◌+◌, ◌*◌, ◌≤◌, drop, map}
use Rattle.fsw_base.specs.Grants.{held_by}
use Rattle.app_pools.specs.Inside.{grant_of, AreLent, AreGivenBack}
use Rattle.app_pools.proofs.pool.free_all_of.Given as goal

abbrev pub invariant-loop-grant : goal.invariant-loop-grant
invariant-loop-grant g l = record {
  blocks : AreLent l.initial.pool l.lent;
  back : AreGivenBack l.initial.pool l.pool l.lent l.app l.grant-index;
  cost : l.steps + 8 * held_by l.app (map grant_of (drop l.grant-index l.lent)) ≤ l.initial.steps + 8 * held_by l.app (map grant_of l.lent);
}
