use Rattle.bus_words.proofs.Balance.{IsAccounted-after}
use Rattle.bus_words.proofs.laws.draws_are_counted.Goals as goal

pub returns : goal.returns
returns c = IsAccounted-after
