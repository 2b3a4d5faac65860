use Rattle.housekeeping.proofs.CounterLemmas.{counts_of-push, counts_of-append, count_of-counts_of}
use Rattle.housekeeping.proofs.PeakLemmas.{peak_of-push}
use Rattle.housekeeping.proofs.laws.recall_statistics.Goals as goal

pub returns-clause-counts : goal.returns-clause-counts
returns-clause-counts c = count_of-counts_of

pub returns-clause-tick : goal.returns-clause-tick
returns-clause-tick c = counts_of-push

pub returns-clause-ticks : goal.returns-clause-ticks
returns-clause-ticks c = counts_of-append

pub returns-clause-seen : goal.returns-clause-seen
returns-clause-seen c = peak_of-push
