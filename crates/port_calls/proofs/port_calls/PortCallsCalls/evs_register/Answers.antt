use Rattle.std.proofs.Common.{refl}
use Rattle.port_calls.proofs.Buffers.{kept}
use Rattle.port_calls.proofs.PortAnswers.{port-may, port-answers, bus-answered}
use Rattle.port_calls.proofs.port_calls.PortCallsCalls.evs_register.Goals as goal

pub evs_register-requires-clause-may : goal.evs_register-requires-clause-may
evs_register-requires-clause-may g c = port-may c.self.inside.port c.self.inside.tables_port c.args.self.now c.self.view_is _ c.requires

pub invariant_of-self : goal.invariant_of-self
invariant_of-self g c = bus-answered _ _ _ _ _ _ c.self.invariant c.evs_register.new.self c.evs_register.ensures.answers.lock c.evs_register.ensures.answers.app

pub returns : goal.returns
returns g c = port-answers c.self.inside.port c.self.inside.tables_port c.args.self.now c.self.view_is c.evs_register.new.self _ _ c.evs_register.ensures.answers (kept c.self.inside.port c.evs_register.new.self _ _ c.evs_register.ensures.bag (λ number. refl))
