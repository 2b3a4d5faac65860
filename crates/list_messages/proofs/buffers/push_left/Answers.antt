-- One buffer further.
use Rattle.std.proofs.Common.{cond, eqb, [], ◌∷◌}
use Rattle.bus_words.specs.Bus.{Buffer}
use Rattle.list_pipes.proofs.Places.{left_more}
use Rattle.list_messages.proofs.buffers.push_left.Goals as goal

pub loop-buffer-preserved : goal.loop-buffer-preserved
loop-buffer-preserved c =
    left_more (λ (b : Buffer). cond (eqb b.number c.args.number) (b.number ∷ []) []) c.args.buffers.now c.loop-buffer.buffer-index c.buffer-item.result _ _ _ c.loop-buffer-test.true c.buffer-item.is c.in_ok-push_if.ensures c.loop-buffer.invariant
