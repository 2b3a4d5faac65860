use Rattle.std.proofs.Common.{refl}
use Rattle.app_calls.proofs.BufferCalls.{leaves-views}
use Rattle.port_calls.proofs.PortAnswers.{port-may, port-answers, bus-answered}
use Rattle.port_calls.proofs.port_calls.PortCallsCalls.receive.Goals as goal

pub receive-requires-clause-may : goal.receive-requires-clause-may
receive-requires-clause-may g c = port-may c.self.inside.port c.self.inside.tables_port c.args.self.now c.self.view_is _ c.requires

pub invariant_of-self : goal.invariant_of-self
invariant_of-self g c = bus-answered _ _ _ _ _ _ c.self.invariant c.receive.new.self c.receive.ensures.answers.lock c.receive.ensures.answers.app

pub returns : goal.returns
returns g c = port-answers c.self.inside.port c.self.inside.tables_port c.args.self.now c.self.view_is c.receive.new.self _ _ c.receive.ensures.answers (leaves-views c.self.inside.port.bag c.receive.new.self.bag _ _ c.receive.ensures.buffers (λ number. refl))
