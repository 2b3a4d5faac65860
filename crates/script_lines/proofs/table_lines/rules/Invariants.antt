use Rattle.std.proofs.Common.{◌≡◌, length, drop}
use Rattle.script_words.specs.Lists.{each}
use Rattle.script_lines.specs.TableLines.{rule_of}
use Rattle.script_words.proofs.ListLemmas.{with_front}
use Rattle.script_lines.proofs.table_lines.rules.Given as goal

abbrev pub invariant-loop-triple : goal.invariant-loop-triple
invariant-loop-triple l = record {
  read : with_front l.kept.items (each rule_of (drop l.triple-index l.triples)) ≡ each rule_of l.triples;
  count : length l.kept.items ≡ l.triple-index;
}
