use Rattle.std.proofs.Common.{refl}
use Rattle.port_calls.proofs.Buffers.{kept}
use Rattle.port_calls.proofs.PortAnswers.{port-may, port-answers, bus-answered}
use Rattle.port_calls.proofs.port_calls.PortCallsCalls.send_event.Goals as goal

pub send_event-requires-clause-may : goal.send_event-requires-clause-may
send_event-requires-clause-may g c = port-may c.self.inside.port c.self.inside.tables_port c.args.self.now c.self.view_is _ c.requires

pub invariant_of-self : goal.invariant_of-self
invariant_of-self g c = bus-answered _ _ _ _ _ _ c.self.invariant c.send_event.new.self c.send_event.ensures.answers.lock c.send_event.ensures.answers.app

pub returns : goal.returns
returns g c = port-answers c.self.inside.port c.self.inside.tables_port c.args.self.now c.self.view_is c.send_event.new.self _ _ c.send_event.ensures.answers (kept c.self.inside.port c.send_event.new.self _ _ c.send_event.ensures.bag (λ number. refl))
