use Rattle.fsw_base.proofs.GrantNumbers.{numbered_new, numbered_get, numbered_put, numbered_end}
use Rattle.fsw_base.proofs.grants.recall_grants_numbered.Goals as goal

pub returns-clause-creations : goal.returns-clause-creations
returns-clause-creations c = numbered_new

pub returns-clause-requests : goal.returns-clause-requests
returns-clause-requests c = numbered_get

pub returns-clause-returns : goal.returns-clause-returns
returns-clause-returns c = numbered_put

pub returns-clause-ends : goal.returns-clause-ends
returns-clause-ends c = numbered_end
