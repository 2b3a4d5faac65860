use Rattle.buf_desc.proofs.Others.{slot_drawn, sizes_drawn, numbers_drawn}
use Rattle.buf_desc.proofs.laws.recall_draw.Goals as goal

pub returns-clause-slots : goal.returns-clause-slots
returns-clause-slots c = slot_drawn

pub returns-clause-sizes : goal.returns-clause-sizes
returns-clause-sizes c = sizes_drawn

pub returns-clause-numbers : goal.returns-clause-numbers
returns-clause-numbers c = numbers_drawn
