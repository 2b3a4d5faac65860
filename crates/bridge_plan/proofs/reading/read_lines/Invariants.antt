use Rattle.std.proofs.Common.{◌≡◌, ◌+◌, ◌≤◌, length, IsTrue}
use Rattle.std.specs.List.{list_all}
use Rattle.script_words.specs.Text.{is_text, lines_of}
use Rattle.bridge_plan.specs.Inside.{after_plan_lines}
use Rattle.bridge_plan.proofs.reading.read_lines.Given as goal

abbrev pub invariant-loop-rest : goal.invariant-loop-rest
invariant-loop-rest l = record {
  read : after_plan_lines l.number l.reading (lines_of l.rest) ≡ after_plan_lines 1 l.initial.reading (lines_of l.initial.rest);
  count : l.number + length l.rest ≤ 2097153;
  text : IsTrue l.plain → IsTrue (list_all (list_all is_text) (lines_of l.rest));
}

abbrev pub decreases-loop-rest : goal.decreases-loop-rest
decreases-loop-rest l = length l.rest
