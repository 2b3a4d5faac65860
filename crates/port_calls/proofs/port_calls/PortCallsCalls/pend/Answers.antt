use Rattle.std.proofs.Common.{refl}
use Rattle.app_calls.proofs.BufferCalls.{leaves-views}
use Rattle.port_calls.proofs.PortAnswers.{port-may, port-answers, bus-answered}
use Rattle.port_calls.proofs.port_calls.PortCallsCalls.pend.Goals as goal

pub pend-requires-clause-may : goal.pend-requires-clause-may
pend-requires-clause-may g c = port-may c.self.inside.port c.self.inside.tables_port c.args.self.now c.self.view_is _ c.requires

pub invariant_of-self : goal.invariant_of-self
invariant_of-self g c = bus-answered _ _ _ _ _ _ c.self.invariant c.pend.new.self c.pend.ensures.answers.lock c.pend.ensures.answers.app

pub returns : goal.returns
returns g c = port-answers c.self.inside.port c.self.inside.tables_port c.args.self.now c.self.view_is c.pend.new.self _ _ c.pend.ensures.answers (leaves-views c.self.inside.port.bag c.pend.new.self.bag _ _ c.pend.ensures.buffers (λ number. refl))
