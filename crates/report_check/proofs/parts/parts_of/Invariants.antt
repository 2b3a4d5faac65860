use Rattle.std.proofs.Common.{◌≡◌, ◌-◌, [], length, take, drop}
use Rattle.report_check.specs.Parts.{parts_from, parts_in}
use Rattle.report_check.proofs.parts.parts_of.Given as goal

-- no line so far stands between two parts
abbrev pub invariant-loop-start : goal.invariant-loop-start
invariant-loop-start l = parts_in l.input ≡ parts_from (take l.start l.input) [] (drop l.start l.input)

abbrev pub decreases-loop-start : goal.decreases-loop-start
decreases-loop-start l = length l.input - l.start
