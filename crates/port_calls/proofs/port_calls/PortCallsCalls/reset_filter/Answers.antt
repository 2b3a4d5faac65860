use Rattle.std.proofs.Common.{refl}
use Rattle.port_calls.proofs.Buffers.{kept}
use Rattle.port_calls.proofs.PortAnswers.{port-may, port-answers, bus-answered}
use Rattle.port_calls.proofs.port_calls.PortCallsCalls.reset_filter.Goals as goal

pub reset_filter-requires-clause-may : goal.reset_filter-requires-clause-may
reset_filter-requires-clause-may g c = port-may c.self.inside.port c.self.inside.tables_port c.args.self.now c.self.view_is _ c.requires

pub invariant_of-self : goal.invariant_of-self
invariant_of-self g c = bus-answered _ _ _ _ _ _ c.self.invariant c.reset_filter.new.self c.reset_filter.ensures.answers.lock c.reset_filter.ensures.answers.app

pub returns : goal.returns
returns g c = port-answers c.self.inside.port c.self.inside.tables_port c.args.self.now c.self.view_is c.reset_filter.new.self _ _ c.reset_filter.ensures.answers (kept c.self.inside.port c.reset_filter.new.self _ _ c.reset_filter.ensures.bag (λ number. refl))
