use Rattle.std.proofs.Common.{length, ap}
use Rattle.script_runs.specs.Messages.{sent_message}
use Rattle.bus_service.specs.Ports.{PortView}
use Rattle.port_calls.proofs.PortAnswers.{port-sizes, port-writes, bus-answered}
use Rattle.port_calls.proofs.port_calls.PortCallsCalls.form_buffer.Goals as goal

pub form_in-requires : goal.form_in-requires
form_in-requires g c bytes there = port-sizes c.self.inside.port c.self.inside.tables_port c.args.self.now c.self.view_is c.requires c.args.buf bytes there

pub invariant_of-self : goal.invariant_of-self
invariant_of-self g c = bus-answered _ _ _ _ _ _ c.self.invariant c.form_in.new.port (ap (λ (p : PortView). p.lock) c.form_in.ensures.rest) (ap (λ (p : PortView). p.app) c.form_in.ensures.rest)

pub returns : goal.returns
returns g c = port-writes c.self.inside.port c.self.inside.tables_port c.args.self.now c.self.view_is c.form_in.new.port c.args.buf (λ old. sent_message c.args.id (length old) c.args.fill) c.requires.bag c.form_in.ensures.bag c.form_in.ensures.rest
