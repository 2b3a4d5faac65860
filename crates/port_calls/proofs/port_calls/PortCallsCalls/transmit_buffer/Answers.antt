use Rattle.buf_desc.specs.Held.{bytes_at}
use Rattle.port_calls.proofs.Buffers.{gone}
use Rattle.port_calls.proofs.PortAnswers.{port-may_send, port-has, port-sends, bus-answered}
use Rattle.port_calls.proofs.port_calls.PortCallsCalls.transmit_buffer.Goals as goal

pub transmit_buffer-requires-clause-may : goal.transmit_buffer-requires-clause-may
transmit_buffer-requires-clause-may g c = port-may_send c.self.inside.port c.self.inside.tables_port c.args.self.now c.self.view_is c.args.buf c.args.inc c.requires

pub invariant_of-self : goal.invariant_of-self
invariant_of-self g c = bus-answered _ _ _ _ _ _ c.self.invariant c.transmit_buffer.new.self c.transmit_buffer.ensures.answers.lock c.transmit_buffer.ensures.answers.app

pub returns : goal.returns
returns g c = port-sends c.self.inside.port c.self.inside.tables_port c.args.self.now c.self.view_is c.transmit_buffer.new.self c.args.buf c.args.inc _ c.transmit_buffer.ensures.answers
    (gone c.self.inside.port c.transmit_buffer.new.self (port-has c.self.inside.port c.self.inside.tables_port c.args.self.now c.self.view_is c.requires.bag) c.transmit_buffer.ensures.views c.args.buf (bytes_at c.self.inside.port.bag c.args.buf) c.args.inc c.transmit_buffer.result c.transmit_buffer.ensures.answers
    (port-may_send c.self.inside.port c.self.inside.tables_port c.args.self.now c.self.view_is c.args.buf c.args.inc c.requires) c.transmit_buffer.ensures.count c.transmit_buffer.ensures.buffers c.transmit_buffer.ensures.bag_refused)
