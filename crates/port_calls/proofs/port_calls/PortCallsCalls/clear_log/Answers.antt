use Rattle.std.proofs.Common.{refl}
use Rattle.port_calls.proofs.Buffers.{kept}
use Rattle.port_calls.proofs.PortAnswers.{port-may, port-answers, bus-answered}
use Rattle.port_calls.proofs.port_calls.PortCallsCalls.clear_log.Goals as goal

pub clear_log-requires-clause-may : goal.clear_log-requires-clause-may
clear_log-requires-clause-may g c = port-may c.self.inside.port c.self.inside.tables_port c.args.self.now c.self.view_is _ c.requires

pub invariant_of-self : goal.invariant_of-self
invariant_of-self g c = bus-answered _ _ _ _ _ _ c.self.invariant c.clear_log.new.self c.clear_log.ensures.answers.lock c.clear_log.ensures.answers.app

pub returns : goal.returns
returns g c = port-answers c.self.inside.port c.self.inside.tables_port c.args.self.now c.self.view_is c.clear_log.new.self _ _ c.clear_log.ensures.answers (kept c.self.inside.port c.clear_log.new.self _ _ c.clear_log.ensures.bag (λ number. refl))
