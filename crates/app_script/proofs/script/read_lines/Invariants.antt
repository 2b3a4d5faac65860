use Rattle.std.proofs.Common.{◌≡◌, ◌+◌, ◌≤◌, length, IsTrue}
use Rattle.std.specs.List.{list_all}
use Rattle.script_words.specs.Text.{is_text, lines_of}
use Rattle.app_script.specs.Grammar.{after_lines}
use Rattle.app_script.proofs.script.read_lines.Given as goal

abbrev pub invariant-loop-rest : goal.invariant-loop-rest
invariant-loop-rest l = record {
  read : after_lines l.number l.reading (lines_of l.rest) ≡ after_lines 1 l.initial.reading (lines_of l.initial.rest);
  count : l.number + length l.rest ≤ 1048577;
  text : IsTrue l.plain → IsTrue (list_all (list_all is_text) (lines_of l.rest));
}

abbrev pub decreases-loop-rest : goal.decreases-loop-rest
decreases-loop-rest l = length l.rest
