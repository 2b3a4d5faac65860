use Rattle.std.proofs.Common.{refl}
use Rattle.port_calls.proofs.Buffers.{kept}
use Rattle.port_calls.proofs.PortAnswers.{port-may, port-answers, bus-answered}
use Rattle.port_calls.proofs.port_calls.PortCallsCalls.find_pipe.Goals as goal

pub find_pipe-requires-clause-may : goal.find_pipe-requires-clause-may
find_pipe-requires-clause-may g c = port-may c.self.inside.port c.self.inside.tables_port c.args.self.now c.self.view_is _ c.requires

pub invariant_of-self : goal.invariant_of-self
invariant_of-self g c = bus-answered _ _ _ _ _ _ c.self.invariant c.find_pipe.new.self c.find_pipe.ensures.answers.lock c.find_pipe.ensures.answers.app

pub returns : goal.returns
returns g c = port-answers c.self.inside.port c.self.inside.tables_port c.args.self.now c.self.view_is c.find_pipe.new.self _ _ c.find_pipe.ensures.answers (kept c.self.inside.port c.find_pipe.new.self _ _ c.find_pipe.ensures.bag (λ number. refl))
