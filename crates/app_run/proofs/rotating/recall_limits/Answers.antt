use Rattle.std.proofs.Common.{ap, arith}
use Rattle.fsw_base.specs.Limits.{Limits}
use Rattle.app_run.proofs.rotating.recall_limits.Goals as goal

pub returns-clause-small : goal.returns-clause-small
returns-clause-small c = omega (arith, ap (λ (limits : Limits). limits.msgmax) c.config.ensures, c.config.result.now.msgmax_in_range)

pub returns-clause-small_tables : goal.returns-clause-small_tables
returns-clause-small_tables c = omega (arith, ap (λ (limits : Limits). limits.tablemax) c.config.ensures, c.config.result.now.tablemax_in_range)
