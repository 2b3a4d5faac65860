use Rattle.std.proofs.Common.{◌≡◌, ◌+◌, ◌≤◌, length}
use Rattle.script_words.specs.Text.{words_of}
use Rattle.script_words.specs.Lists.{each}
use Rattle.script_lines.specs.TableLines.{triple_word}
use Rattle.script_words.proofs.ListLemmas.{with_front}
use Rattle.script_lines.proofs.table_lines.triples.Given as goal

abbrev pub invariant-loop-word : goal.invariant-loop-word
invariant-loop-word l = record {
  read : with_front l.triples.items (each triple_word (words_of l.rest)) ≡ each triple_word (words_of l.initial.rest);
  room : length l.triples.items + length (words_of l.rest) ≤ 8;
}

abbrev pub decreases-loop-word : goal.decreases-loop-word
decreases-loop-word l = length l.rest
