use Rattle.std.proofs.Common.{◌≡◌, ◌++◌, take, vec_capacity}
use Rattle.std.specs.Vec.{vec_ptr}
use Rattle.fsw_base.proofs.reserved.extend_reserved.Given as goal

-- the bytes so far stand behind those that were there
abbrev pub invariant-loop-byte : goal.invariant-loop-byte
invariant-loop-byte l = record {
  items : l.own.items ≡ l.initial.own.items ++ take l.byte-index l.bytes;
  capacity : vec_capacity l.own ≡ vec_capacity l.initial.own;
  in_place : vec_ptr l.own ≡ vec_ptr l.initial.own;
}
