use Rattle.bus_words.proofs.EventCounts.{refusals_are_read}
use Rattle.bus_words.proofs.event_laws.event_refusals_are_read.Goals as goal

pub returns : goal.returns
returns c = refusals_are_read
