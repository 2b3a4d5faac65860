use Rattle.std.proofs.Common.{refl}
use Rattle.port_calls.proofs.Buffers.{kept}
use Rattle.port_calls.proofs.PortAnswers.{port-may, port-answers, bus-answered}
use Rattle.port_calls.proofs.port_calls.PortCallsCalls.transmit.Goals as goal

pub transmit-requires-clause-may : goal.transmit-requires-clause-may
transmit-requires-clause-may g c = port-may c.self.inside.port c.self.inside.tables_port c.args.self.now c.self.view_is _ c.requires

pub invariant_of-self : goal.invariant_of-self
invariant_of-self g c = bus-answered _ _ _ _ _ _ c.self.invariant c.transmit.new.self c.transmit.ensures.answers.lock c.transmit.ensures.answers.app

pub returns : goal.returns
returns g c = port-answers c.self.inside.port c.self.inside.tables_port c.args.self.now c.self.view_is c.transmit.new.self _ _ c.transmit.ensures.answers (kept c.self.inside.port c.transmit.new.self _ _ c.transmit.ensures.bag (λ number. refl))
