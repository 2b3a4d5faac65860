use Rattle.bus_words.proofs.UnsentBuffers.{AreUnsent-after}
use Rattle.bus_words.proofs.laws.buffers_are_apart.Goals as goal

pub returns : goal.returns
returns c = AreUnsent-after
