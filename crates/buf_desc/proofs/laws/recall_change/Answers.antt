use Rattle.buf_desc.proofs.Others.{slot_changed, sizes_given_back, numbers_changed}
use Rattle.buf_desc.proofs.laws.recall_change.Goals as goal

pub returns-clause-slots : goal.returns-clause-slots
returns-clause-slots c = slot_changed

pub returns-clause-sizes : goal.returns-clause-sizes
returns-clause-sizes c = sizes_given_back

pub returns-clause-numbers : goal.returns-clause-numbers
returns-clause-numbers c = numbers_changed
