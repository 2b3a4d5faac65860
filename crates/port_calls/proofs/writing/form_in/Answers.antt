use Rattle.std.proofs.Common.{length, sym, subst}
use Rattle.buf_desc.specs.Held.{buffer_at}
use Rattle.script_runs.specs.Messages.{sent_message}
use Rattle.script_runs.specs.Written.{with_bytes}
use Rattle.app_calls.specs.Buffers.{WritesBag}
use Rattle.app_calls.specs.Callers.{written_in}
use Rattle.bus_service.specs.Ports.{PortView}
use Rattle.port_calls.proofs.BufferMessages.{formed-long, writes-whole}
use Rattle.port_calls.proofs.writing.form_in.Goals as goal

pub returns-then-holds_buffer-clause-bag : goal.returns-then-holds_buffer-clause-bag
returns-then-holds_buffer-clause-bag c =
    subst (λ (p : PortView). WritesBag c.args.port.now.bag p.bag (with_bytes (written_in c.args.port.now.bag) c.args.buf (λ old. sent_message c.args.id (length old) c.args.fill)))
    (sym c.write_buffer.ensures)
    (writes-whole c.args.port.now.bag c.args.buf (λ old. sent_message c.args.id (length old) c.args.fill) c.recall_written.ensures.seen c.recall_written.ensures.long
    (formed-long (buffer_at c.args.port.now.bag c.args.buf) c.args.id c.args.fill (sym c.if-holds_buffer.ensures.seen) c.requires))
