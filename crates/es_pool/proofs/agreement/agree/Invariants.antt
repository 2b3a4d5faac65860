use Rattle.std.proofs.Common.{◌+◌, ◌*◌, ◌≤◌, drop}
use Rattle.fsw_base.specs.PoolAccounts.{Account}
use Rattle.es_pool.specs.Account.{IsAccountOf}
use Rattle.es_pool.specs.Pool.{PoolState}
use Rattle.es_pool.specs.Runs.{LeadTo}
use Rattle.es_pool.proofs.agreement.agree.Given as goal

abbrev pub invariant-loop-call : goal.invariant-loop-call
invariant-loop-call g l = record {
  account : IsAccountOf l.pool l.plain;
  run : (last : PoolState) (after : Account) → LeadTo l.pool l.plain (drop l.call-index l.calls) last after → LeadTo l.initial.pool l.initial.plain l.calls last after;
  cost : l.steps ≤ l.initial.steps + 8 * l.call-index;
}
