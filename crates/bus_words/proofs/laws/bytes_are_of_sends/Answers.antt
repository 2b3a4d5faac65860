use Rattle.bus_words.proofs.HeldBlocks.{bytes_of_sends}
use Rattle.bus_words.proofs.laws.bytes_are_of_sends.Goals as goal

pub returns : goal.returns
returns c = bytes_of_sends
