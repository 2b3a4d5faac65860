use Rattle.bus_words.proofs.Statistics.{tells_as_sends}
use Rattle.bus_words.proofs.laws.housekeeping_is_a_send.Goals as goal

pub returns : goal.returns
returns c = tells_as_sends
