use Rattle.std.proofs.Common.{ap}
use Rattle.script_runs.specs.Written.{put_in}
use Rattle.bus_service.specs.Ports.{PortView}
use Rattle.port_calls.proofs.PortAnswers.{port-writes, bus-answered}
use Rattle.port_calls.proofs.port_calls.PortCallsCalls.put_bytes.Goals as goal

pub invariant_of-self : goal.invariant_of-self
invariant_of-self g c = bus-answered _ _ _ _ _ _ c.self.invariant c.put_bytes_in.new.port (ap (λ (p : PortView). p.lock) c.put_bytes_in.ensures.rest) (ap (λ (p : PortView). p.app) c.put_bytes_in.ensures.rest)

pub returns : goal.returns
returns g c = port-writes c.self.inside.port c.self.inside.tables_port c.args.self.now c.self.view_is c.put_bytes_in.new.port c.args.buf (λ old. put_in old c.args.offset c.args.bytes.now) c.requires.bag c.put_bytes_in.ensures.bag c.put_bytes_in.ensures.rest
