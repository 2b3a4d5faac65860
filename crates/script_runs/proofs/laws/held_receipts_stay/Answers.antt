use Rattle.script_runs.proofs.HeldReceipts.{held_stays, held-other}
use Rattle.script_runs.proofs.laws.held_receipts_stay.Goals as goal

pub returns : goal.returns
returns c = record { stays = held_stays; step = held-other }
