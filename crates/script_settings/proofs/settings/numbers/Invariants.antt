use Rattle.std.proofs.Common.{◌≡◌, ◌+◌, ◌≤◌, length}
use Rattle.script_words.specs.Text.{words_of}
use Rattle.script_words.specs.Lists.{each}
use Rattle.script_words.specs.Numbers.{number_of}
use Rattle.script_words.proofs.ListLemmas.{with_front}
use Rattle.script_settings.proofs.settings.numbers.Given as goal

abbrev pub invariant-loop-word : goal.invariant-loop-word
invariant-loop-word l = record {
  read : with_front l.numbers.items (each number_of (words_of l.rest)) ≡ each number_of (words_of l.initial.rest);
  room : length l.numbers.items + length (words_of l.rest) ≤ 17;
}

abbrev pub decreases-loop-word : goal.decreases-loop-word
decreases-loop-word l = length l.rest
