use Rattle.std.proofs.Common.{ap}
use Rattle.core_port.specs.Words.{Fixed}
use Rattle.tbl_service.proofs.tables.Tables.close.Goals as goal

pub returns-clause-limits : goal.returns-clause-limits
returns-clause-limits c = ap (λ (f : Fixed). f.limits) c.close.ensures.opening

pub returns-clause-budgets : goal.returns-clause-budgets
returns-clause-budgets c = ap (λ (f : Fixed). f.budgets) c.close.ensures.opening

pub returns-clause-legal : goal.returns-clause-legal
returns-clause-legal c = c.close.ensures.sound.legal

pub returns-clause-extends : goal.returns-clause-extends
returns-clause-extends c = c.close.ensures.extends

pub returns-clause-ended : goal.returns-clause-ended
returns-clause-ended c = c.close.ensures.ended

pub returns-clause-others : goal.returns-clause-others
returns-clause-others c = c.close.ensures.others
