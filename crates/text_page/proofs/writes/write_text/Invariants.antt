use Rattle.std.proofs.Common.{length, take, false, ◌-◌, ◌≡◌, ◌≤◌}
use Rattle.text_page.specs.Pieces.{Grew}
use Rattle.text_page.proofs.writes.write_text.Given as goal

abbrev pub invariant-loop-taken : goal.invariant-loop-taken
invariant-loop-taken g l = record {
  within : l.taken ≤ length l.bytes;
  none_failed : l.sink.failed ≡ false;
  grew : Grew l.initial.sink.written l.sink.written (take l.taken l.bytes);
  faults : l.initial.sink.faults ≤ l.sink.faults;
  same_sink : l.sink.sink ≡ l.initial.sink.sink;
}

abbrev pub decreases-loop-taken : goal.decreases-loop-taken
decreases-loop-taken g l = length l.bytes - l.taken
