use Rattle.std.proofs.Common.{List, ap, sym, ◌∙◌, find}
use Rattle.std.specs.Bool.{◌==◌}
use Rattle.std.specs.Option.{is_some}
use Rattle.buf_desc.specs.Block.{Unsent}
use Rattle.buf_desc.specs.Held.{buffer_at}
use Rattle.bus_words.specs.Bus.{has_unsent}
use Rattle.sb_calls.specs.Core.{state_of}
use Rattle.bus_service.specs.Ports.{PortView}
use Rattle.bus_service.proofs.LentBuffers.{some-mapped, unsent_found}
use Rattle.bus_service.proofs.ports.PortOf.finds_buffer.Goals as goal

pub returns-clause-there : goal.returns-clause-there
returns-clause-there g c =
    let view = g.V.MessageView in
    c.is_some.ensures
    ∙ sym (some-mapped _ c.buffer.result)
    ∙ ap is_some c.buffer.ensures
    ∙ ap (λ (blocks : List Unsent). is_some (find (λ b. b.number == c.args.buf) blocks)) (sym (view.same_buffers c.self.inside.bag))
    ∙ unsent_found c.self.inside.port.seen c.self.inside.port.app (view.held c.self.inside.bag) c.self.invariant c.args.buf
    ∙ ap (λ (p : PortView). has_unsent (state_of p.seen).unsent p.app c.args.buf) c.self.view_is

pub returns-clause-seen : goal.returns-clause-seen
returns-clause-seen g c =
    let view = g.V.MessageView in
    c.is_some.ensures
    ∙ sym (some-mapped _ c.buffer.result)
    ∙ ap is_some c.buffer.ensures
    ∙ ap (λ (blocks : List Unsent). is_some (find (λ b. b.number == c.args.buf) blocks)) (sym (view.same_buffers c.self.inside.bag))
    ∙ ap (λ (p : PortView). is_some (buffer_at p.bag c.args.buf)) c.self.view_is
