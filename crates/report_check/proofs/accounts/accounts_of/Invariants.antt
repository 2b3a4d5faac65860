use Rattle.std.proofs.Common.{◌≡◌, map, take}
use Rattle.fsw_base.specs.Grants.{pool_account}
use Rattle.report_check.proofs.accounts.accounts_of.Given as goal

abbrev pub invariant-loop-i : goal.invariant-loop-i
invariant-loop-i l = l.accounts.items ≡ map pool_account (take l.i l.pools.pools)
