use Rattle.std.proofs.Common.{◌≡◌, ◌+◌, ◌≤◌, length}
use Rattle.script_words.specs.Text.{words_of}
use Rattle.script_words.proofs.counts.count.Given as goal

abbrev pub invariant-loop-behind : goal.invariant-loop-behind
invariant-loop-behind l = record {
  count : l.count + length (words_of l.rest) ≡ length (words_of l.initial.rest);
  within : l.count + length l.rest ≤ length l.initial.rest;
}

abbrev pub decreases-loop-behind : goal.decreases-loop-behind
decreases-loop-behind l = length l.rest
