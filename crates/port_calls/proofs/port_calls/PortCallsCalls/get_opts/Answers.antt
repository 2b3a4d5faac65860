use Rattle.std.proofs.Common.{refl}
use Rattle.port_calls.proofs.Buffers.{kept}
use Rattle.port_calls.proofs.PortAnswers.{port-may, port-answers, bus-answered}
use Rattle.port_calls.proofs.port_calls.PortCallsCalls.get_opts.Goals as goal

pub get_opts-requires-clause-may : goal.get_opts-requires-clause-may
get_opts-requires-clause-may g c = port-may c.self.inside.port c.self.inside.tables_port c.args.self.now c.self.view_is _ c.requires

pub invariant_of-self : goal.invariant_of-self
invariant_of-self g c = bus-answered _ _ _ _ _ _ c.self.invariant c.get_opts.new.self c.get_opts.ensures.answers.lock c.get_opts.ensures.answers.app

pub returns : goal.returns
returns g c = port-answers c.self.inside.port c.self.inside.tables_port c.args.self.now c.self.view_is c.get_opts.new.self _ _ c.get_opts.ensures.answers (kept c.self.inside.port c.get_opts.new.self _ _ c.get_opts.ensures.bag (λ number. refl))
