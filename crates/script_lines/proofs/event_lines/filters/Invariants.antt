use Rattle.std.proofs.Common.{◌≡◌, length, drop}
use Rattle.script_words.specs.Lists.{each}
use Rattle.script_lines.specs.EventLines.{filter_of}
use Rattle.script_words.proofs.ListLemmas.{with_front}
use Rattle.script_lines.proofs.event_lines.filters.Given as goal

abbrev pub invariant-loop-pair : goal.invariant-loop-pair
invariant-loop-pair l = record {
  read : with_front l.kept.items (each filter_of (drop l.pair-index l.pairs)) ≡ each filter_of l.pairs;
  count : length l.kept.items ≡ l.pair-index;
}
