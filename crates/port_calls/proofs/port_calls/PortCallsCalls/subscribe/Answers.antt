use Rattle.std.proofs.Common.{refl}
use Rattle.port_calls.proofs.Buffers.{kept}
use Rattle.port_calls.proofs.PortAnswers.{port-may, port-answers, bus-answered}
use Rattle.port_calls.proofs.port_calls.PortCallsCalls.subscribe.Goals as goal

pub subscribe-requires-clause-may : goal.subscribe-requires-clause-may
subscribe-requires-clause-may g c = port-may c.self.inside.port c.self.inside.tables_port c.args.self.now c.self.view_is _ c.requires

pub invariant_of-self : goal.invariant_of-self
invariant_of-self g c = bus-answered _ _ _ _ _ _ c.self.invariant c.subscribe.new.self c.subscribe.ensures.answers.lock c.subscribe.ensures.answers.app

pub returns : goal.returns
returns g c = port-answers c.self.inside.port c.self.inside.tables_port c.args.self.now c.self.view_is c.subscribe.new.self _ _ c.subscribe.ensures.answers (kept c.self.inside.port c.subscribe.new.self _ _ c.subscribe.ensures.bag (λ number. refl))
