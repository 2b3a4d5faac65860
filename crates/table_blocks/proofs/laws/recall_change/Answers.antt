use Rattle.table_blocks.proofs.Sets.{kept_set}
use Rattle.table_blocks.proofs.laws.recall_change.Goals as goal

pub returns : goal.returns
returns c = kept_set
