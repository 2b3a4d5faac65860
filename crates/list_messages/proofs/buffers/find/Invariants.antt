use Rattle.std.proofs.Common.{◌≡◌, ◌==◌, drop}
use Rattle.std.specs.Prelude.{find}
use Rattle.list_messages.proofs.buffers.find.Given as goal

-- what is left decides
abbrev pub invariant-loop-buffer : goal.invariant-loop-buffer
invariant-loop-buffer l = find (λ buffer. buffer.number == l.number) (drop l.buffer-index l.buffers) ≡ find (λ buffer. buffer.number == l.number) l.buffers
