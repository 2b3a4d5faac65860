use Rattle.bus_words.proofs.Acts.{whole_after-legal, reads_after-legal, causes_after, acts_after}
use Rattle.bus_words.proofs.laws.states_are_enough.Goals as goal

pub returns : goal.returns
returns c = record { folds = whole_after-legal; reads = reads_after-legal; causes = causes_after; acts = acts_after }
