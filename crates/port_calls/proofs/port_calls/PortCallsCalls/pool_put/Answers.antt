use Rattle.std.proofs.Common.{refl}
use Rattle.port_calls.proofs.Buffers.{kept}
use Rattle.port_calls.proofs.PortAnswers.{port-may, port-answers, bus-answered}
use Rattle.port_calls.proofs.port_calls.PortCallsCalls.pool_put.Goals as goal

pub pool_put-requires-clause-may : goal.pool_put-requires-clause-may
pool_put-requires-clause-may g c = port-may c.self.inside.port c.self.inside.tables_port c.args.self.now c.self.view_is _ c.requires

pub invariant_of-self : goal.invariant_of-self
invariant_of-self g c = bus-answered _ _ _ _ _ _ c.self.invariant c.pool_put.new.self c.pool_put.ensures.answers.lock c.pool_put.ensures.answers.app

pub returns : goal.returns
returns g c = port-answers c.self.inside.port c.self.inside.tables_port c.args.self.now c.self.view_is c.pool_put.new.self _ _ c.pool_put.ensures.answers (kept c.self.inside.port c.pool_put.new.self _ _ c.pool_put.ensures.bag (λ number. refl))
