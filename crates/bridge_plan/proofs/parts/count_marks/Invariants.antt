use Rattle.std.proofs.Common.{◌≡◌, ◌+◌, ◌≤◌, length}
use Rattle.script_words.specs.Text.{lines_of}
use Rattle.bridge_plan.specs.Parts.{marks_in}
use Rattle.bridge_plan.proofs.parts.count_marks.Given as goal

-- so many lines so far, and each has a byte at least
abbrev pub invariant-loop-rest : goal.invariant-loop-rest
invariant-loop-rest l = record {
  count : l.marks + marks_in (lines_of l.rest) ≡ marks_in (lines_of l.initial.rest);
  room : l.marks + length l.rest ≤ length l.initial.rest;
}

abbrev pub decreases-loop-rest : goal.decreases-loop-rest
decreases-loop-rest l = length l.rest
