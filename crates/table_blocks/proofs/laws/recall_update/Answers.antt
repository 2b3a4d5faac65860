use Rattle.table_blocks.proofs.Sets.{version_before}
use Rattle.table_blocks.proofs.laws.recall_update.Goals as goal

pub returns : goal.returns
returns c = version_before
