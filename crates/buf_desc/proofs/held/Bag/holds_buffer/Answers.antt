use Rattle.std.proofs.Common.{ap, ◌∙◌}
use Rattle.std.specs.Option.{is_some}
use Rattle.buf_desc.specs.Block.{Unsent}
use Rattle.buf_desc.specs.Held.{Holding, buffer_at}
use Rattle.buf_desc.proofs.Finds.{tells}
use Rattle.buf_desc.proofs.held.Bag.holds_buffer.Goals as goal

pub returns-clause-answer : goal.returns-clause-answer
returns-clause-answer g c =
    let s = c.self.inside in
    c.is_ok.ensures.value
    ∙ (tells (λ (b : Unsent). b.number) s.buffers.items c.args.number c.buffer_place.result c.self.invariant.5 c.buffer_place.ensures.found c.buffer_place.ensures.absent
    ∙ ap (λ (bag : Holding g.row.V.Denot). is_some (buffer_at bag c.args.number)) c.self.view_is)
