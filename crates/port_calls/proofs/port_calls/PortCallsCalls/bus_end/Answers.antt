use Rattle.app_calls.proofs.BufferCalls.{leaves-none}
use Rattle.port_calls.proofs.PortAnswers.{port-may, port-answers, bus-answered}
use Rattle.port_calls.proofs.port_calls.PortCallsCalls.bus_end.Goals as goal

pub end-requires-clause-may : goal.end-requires-clause-may
end-requires-clause-may g c = port-may c.self.inside.port c.self.inside.tables_port c.args.self.now c.self.view_is _ c.requires.may

pub invariant_of-self : goal.invariant_of-self
invariant_of-self g c = bus-answered _ _ _ _ _ _ c.self.invariant c.end.new.self c.end.ensures.answers.lock c.end.ensures.answers.app

pub returns : goal.returns
returns g c = port-answers c.self.inside.port c.self.inside.tables_port c.args.self.now c.self.view_is c.end.new.self _ _ c.end.ensures.answers (leaves-none c.self.inside.port.bag c.end.new.self.bag c.end.ensures.empty)
