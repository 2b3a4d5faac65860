use Rattle.std.proofs.Common.{◌≡◌, map}
use Rattle.std.specs.List.{range_with_len}
use Rattle.fsw_base.specs.Grants.{out_of}
use Rattle.list_pool.proofs.grants.blocks_out.Given as goal

-- the block sizes so far
abbrev pub invariant-loop-class : goal.invariant-loop-class
invariant-loop-class l = l.counts.items ≡ map (λ class. out_of class l.out) (range_with_len 0 l.class)
