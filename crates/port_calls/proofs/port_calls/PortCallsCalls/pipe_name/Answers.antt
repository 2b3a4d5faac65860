use Rattle.std.proofs.Common.{refl}
use Rattle.port_calls.proofs.Buffers.{kept}
use Rattle.port_calls.proofs.PortAnswers.{port-may, port-answers, bus-answered}
use Rattle.port_calls.proofs.port_calls.PortCallsCalls.pipe_name.Goals as goal

pub pipe_name-requires-clause-may : goal.pipe_name-requires-clause-may
pipe_name-requires-clause-may g c = port-may c.self.inside.port c.self.inside.tables_port c.args.self.now c.self.view_is _ c.requires

pub invariant_of-self : goal.invariant_of-self
invariant_of-self g c = bus-answered _ _ _ _ _ _ c.self.invariant c.pipe_name.new.self c.pipe_name.ensures.answers.lock c.pipe_name.ensures.answers.app

pub returns : goal.returns
returns g c = port-answers c.self.inside.port c.self.inside.tables_port c.args.self.now c.self.view_is c.pipe_name.new.self _ _ c.pipe_name.ensures.answers (kept c.self.inside.port c.pipe_name.new.self _ _ c.pipe_name.ensures.bag (λ number. refl))
