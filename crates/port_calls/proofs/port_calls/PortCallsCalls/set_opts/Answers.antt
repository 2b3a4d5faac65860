use Rattle.std.proofs.Common.{refl}
use Rattle.port_calls.proofs.Buffers.{kept}
use Rattle.port_calls.proofs.PortAnswers.{port-may, port-answers, bus-answered}
use Rattle.port_calls.proofs.port_calls.PortCallsCalls.set_opts.Goals as goal

pub set_opts-requires-clause-may : goal.set_opts-requires-clause-may
set_opts-requires-clause-may g c = port-may c.self.inside.port c.self.inside.tables_port c.args.self.now c.self.view_is _ c.requires

pub invariant_of-self : goal.invariant_of-self
invariant_of-self g c = bus-answered _ _ _ _ _ _ c.self.invariant c.set_opts.new.self c.set_opts.ensures.answers.lock c.set_opts.ensures.answers.app

pub returns : goal.returns
returns g c = port-answers c.self.inside.port c.self.inside.tables_port c.args.self.now c.self.view_is c.set_opts.new.self _ _ c.set_opts.ensures.answers (kept c.self.inside.port c.set_opts.new.self _ _ c.set_opts.ensures.bag (λ number. refl))
