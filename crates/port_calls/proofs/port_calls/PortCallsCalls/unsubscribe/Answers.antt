use Rattle.std.proofs.Common.{refl}
use Rattle.port_calls.proofs.Buffers.{kept}
use Rattle.port_calls.proofs.PortAnswers.{port-may, port-answers, bus-answered}
use Rattle.port_calls.proofs.port_calls.PortCallsCalls.unsubscribe.Goals as goal

pub unsubscribe-requires-clause-may : goal.unsubscribe-requires-clause-may
unsubscribe-requires-clause-may g c = port-may c.self.inside.port c.self.inside.tables_port c.args.self.now c.self.view_is _ c.requires

pub invariant_of-self : goal.invariant_of-self
invariant_of-self g c = bus-answered _ _ _ _ _ _ c.self.invariant c.unsubscribe.new.self c.unsubscribe.ensures.answers.lock c.unsubscribe.ensures.answers.app

pub returns : goal.returns
returns g c = port-answers c.self.inside.port c.self.inside.tables_port c.args.self.now c.self.view_is c.unsubscribe.new.self _ _ c.unsubscribe.ensures.answers (kept c.self.inside.port c.unsubscribe.new.self _ _ c.unsubscribe.ensures.bag (λ number. refl))
