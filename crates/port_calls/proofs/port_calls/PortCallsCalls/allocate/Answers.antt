use Rattle.port_calls.proofs.Buffers.{given}
use Rattle.port_calls.proofs.PortAnswers.{port-may, port-has, port-room, port-answers, bus-answered}
use Rattle.port_calls.proofs.port_calls.PortCallsCalls.allocate.Goals as goal

pub allocate-requires-clause-may : goal.allocate-requires-clause-may
allocate-requires-clause-may g c = port-may c.self.inside.port c.self.inside.tables_port c.args.self.now c.self.view_is _ c.requires

pub allocate-requires-clause-room : goal.allocate-requires-clause-room
allocate-requires-clause-room g c = port-room c.self.inside.port c.self.inside.tables_port c.args.self.now c.self.view_is c.requires.room

pub invariant_of-self : goal.invariant_of-self
invariant_of-self g c = bus-answered _ _ _ _ _ _ c.self.invariant c.allocate.new.self c.allocate.ensures.answers.lock c.allocate.ensures.answers.app

pub returns : goal.returns
returns g c = port-answers c.self.inside.port c.self.inside.tables_port c.args.self.now c.self.view_is c.allocate.new.self _ _ c.allocate.ensures.answers
    (given c.self.inside.port c.allocate.new.self (port-has c.self.inside.port c.self.inside.tables_port c.args.self.now c.self.view_is c.requires.bag) c.allocate.ensures.views c.args.size c.allocate.result c.allocate.ensures.answers (port-may c.self.inside.port c.self.inside.tables_port c.args.self.now c.self.view_is _ c.requires)
    c.allocate.ensures.count c.allocate.ensures.zeros c.allocate.ensures.buffers c.allocate.ensures.bag_refused)
