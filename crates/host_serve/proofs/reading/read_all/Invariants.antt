use Rattle.std.proofs.Common.{◌≡◌, ◌≤◌, ◌+◌, ◌-◌, false, vec_len, vec_capacity}
use Rattle.host_serve.specs.Input.{input_of}
use Rattle.host_serve.proofs.reading.read_all.Given as goal

abbrev pub invariant-loop-piece : goal.invariant-loop-piece
invariant-loop-piece g l = record {
  none_failed : l.source.failed ≡ false;
  input : l.initial.source.left ≡ input_of l.kept.items l.source.left;
  room : l.initial.most + 1 ≤ vec_capacity l.kept;
  fits : vec_len l.kept ≤ l.initial.most + 1;
  faults : l.initial.source.faults ≤ l.source.faults;
  same_source : l.source.source ≡ l.initial.source.source;
}

abbrev pub decreases-loop-piece : goal.decreases-loop-piece
decreases-loop-piece g l = l.initial.most + 1 - vec_len l.kept
