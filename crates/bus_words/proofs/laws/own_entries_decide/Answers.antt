use Rattle.bus_words.proofs.OwnEntries.{standing_same, left_same, left_by_own}
use Rattle.bus_words.proofs.OwnStandings.{stands_by_last}
use Rattle.bus_words.proofs.laws.own_entries_decide.Goals as goal

pub returns : goal.returns
returns c = record {
  standing = λ limits apps app history more legal others. standing_same limits apps app history more legal others;
  left = λ limits apps app budgets history more legal first others. left_same limits apps app history more legal others budgets first;
  own = left_by_own;
  last = stands_by_last;
}
