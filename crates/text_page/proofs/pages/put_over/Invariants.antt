use Rattle.std.proofs.Common.{length, take, ◌-◌, ◌≤◌}
use Rattle.text_page.specs.Pieces.{Puts}
use Rattle.text_page.proofs.pages.put_over.Given as goal

abbrev pub invariant-loop-taken : goal.invariant-loop-taken
invariant-loop-taken g l = record {
  within : l.taken ≤ length l.text;
  puts : Puts l.initial.sink l.sink l.initial.page l.page (take l.taken l.text);
}

abbrev pub decreases-loop-taken : goal.decreases-loop-taken
decreases-loop-taken g l = length l.text - l.taken
