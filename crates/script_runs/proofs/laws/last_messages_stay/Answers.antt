use Rattle.script_runs.proofs.LastMessages.{last_stays, receipt-other}
use Rattle.script_runs.proofs.laws.last_messages_stay.Goals as goal

pub returns : goal.returns
returns c = record { stays = last_stays; step = receipt-other }
