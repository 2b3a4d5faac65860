use Rattle.bus_words.proofs.Statistics.{statistics_after-legal, AreCapped-after}
use Rattle.bus_words.proofs.laws.statistics_are_counted.Goals as goal

pub returns : goal.returns
returns c = record { statistics = statistics_after-legal; peaks = AreCapped-after }
