use Rattle.bus_words.proofs.EventDesks.{desk_after-legal}
use Rattle.bus_words.proofs.laws.events_are_told.Goals as goal

pub returns : goal.returns
returns c = desk_after-legal
