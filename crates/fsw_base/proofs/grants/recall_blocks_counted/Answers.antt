use Rattle.fsw_base.proofs.GrantAccounts.{drawn, returned, refused}
use Rattle.fsw_base.proofs.grants.recall_blocks_counted.Goals as goal

pub returns-clause-draws : goal.returns-clause-draws
returns-clause-draws c = drawn

pub returns-clause-returns : goal.returns-clause-returns
returns-clause-returns c = returned

pub returns-clause-refusals : goal.returns-clause-refusals
returns-clause-refusals c = refused
