use Rattle.bus_words.proofs.Isolation.{stands_alone, stands_apart, gives_newest}
use Rattle.bus_words.proofs.laws.pipes_stand_alone.Goals as goal

pub returns : goal.returns
returns c = record { receipts = stands_alone; last = gives_newest; apart = stands_apart }
