use Rattle.std.proofs.Common.{refl}
use Rattle.app_calls.proofs.BufferCalls.{leaves-views}
use Rattle.port_calls.proofs.PortAnswers.{port-may_look, port-looks, bus-answered}
use Rattle.port_calls.proofs.port_calls.PortCallsCalls.look.Goals as goal

pub look-requires-clause-may : goal.look-requires-clause-may
look-requires-clause-may g c = port-may_look c.self.inside.port c.self.inside.tables_port c.args.self.now c.self.view_is c.requires

pub invariant_of-self : goal.invariant_of-self
invariant_of-self g c = bus-answered _ _ _ _ _ _ c.self.invariant c.look.new.self c.look.ensures.answers.lock c.look.ensures.answers.app

pub returns : goal.returns
returns g c = port-looks c.self.inside.port c.self.inside.tables_port c.args.self.now c.self.view_is c.look.new.self c.look.result c.look.ensures.answers (leaves-views c.self.inside.port.bag c.look.new.self.bag _ _ c.look.ensures.buffers (λ number. refl))
