use Rattle.std.proofs.Common.{refl}
use Rattle.port_calls.proofs.Buffers.{kept}
use Rattle.port_calls.proofs.PortAnswers.{port-may, port-answers, bus-answered}
use Rattle.port_calls.proofs.port_calls.PortCallsCalls.send_housekeeping.Goals as goal

pub send_housekeeping-requires-clause-may : goal.send_housekeeping-requires-clause-may
send_housekeeping-requires-clause-may g c = port-may c.self.inside.port c.self.inside.tables_port c.args.self.now c.self.view_is _ c.requires

pub invariant_of-self : goal.invariant_of-self
invariant_of-self g c = bus-answered _ _ _ _ _ _ c.self.invariant c.send_housekeeping.new.self c.send_housekeeping.ensures.answers.lock c.send_housekeeping.ensures.answers.app

pub returns : goal.returns
returns g c = port-answers c.self.inside.port c.self.inside.tables_port c.args.self.now c.self.view_is c.send_housekeeping.new.self _ _ c.send_housekeeping.ensures.answers (kept c.self.inside.port c.send_housekeeping.new.self _ _ c.send_housekeeping.ensures.bag (λ number. refl))
