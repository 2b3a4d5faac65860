use Rattle.std.proofs.Common.{refl}
use Rattle.app_calls.proofs.BufferCalls.{leaves-views}
use Rattle.port_calls.proofs.PortAnswers.{port-may, port-answers, bus-answered}
use Rattle.port_calls.proofs.port_calls.PortCallsCalls.delete_pipe.Goals as goal

pub delete_pipe-requires-clause-may : goal.delete_pipe-requires-clause-may
delete_pipe-requires-clause-may g c = port-may c.self.inside.port c.self.inside.tables_port c.args.self.now c.self.view_is _ c.requires

pub invariant_of-self : goal.invariant_of-self
invariant_of-self g c = bus-answered _ _ _ _ _ _ c.self.invariant c.delete_pipe.new.self c.delete_pipe.ensures.answers.lock c.delete_pipe.ensures.answers.app

pub returns : goal.returns
returns g c = port-answers c.self.inside.port c.self.inside.tables_port c.args.self.now c.self.view_is c.delete_pipe.new.self _ _ c.delete_pipe.ensures.answers (leaves-views c.self.inside.port.bag c.delete_pipe.new.self.bag _ _ c.delete_pipe.ensures.buffers (λ number. refl))
