use Rattle.run_check.proofs.MergedReceipts.{receipts_are_merged}
use Rattle.run_check.proofs.laws.receipts_are_merged.Goals as goal

pub returns : goal.returns
returns c = receipts_are_merged
