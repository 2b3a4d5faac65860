use Rattle.std.proofs.Common.{◌≡◌, [], replicate}
use Rattle.list_messages.proofs.buffers.no_buffers.Given as goal

-- as many have none as were counted
abbrev pub invariant-loop : goal.invariant-loop
invariant-loop l = l.unsent.items ≡ replicate l.counter []
