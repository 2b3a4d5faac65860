use Rattle.port_calls.proofs.Buffers.{back}
use Rattle.port_calls.proofs.PortAnswers.{port-may, port-has, port-answers, bus-answered}
use Rattle.port_calls.proofs.port_calls.PortCallsCalls.release.Goals as goal

pub release-requires-clause-may : goal.release-requires-clause-may
release-requires-clause-may g c = port-may c.self.inside.port c.self.inside.tables_port c.args.self.now c.self.view_is _ c.requires

pub invariant_of-self : goal.invariant_of-self
invariant_of-self g c = bus-answered _ _ _ _ _ _ c.self.invariant c.release.new.self c.release.ensures.answers.lock c.release.ensures.answers.app

pub returns : goal.returns
returns g c = port-answers c.self.inside.port c.self.inside.tables_port c.args.self.now c.self.view_is c.release.new.self _ _ c.release.ensures.answers
    (back c.self.inside.port c.release.new.self (port-has c.self.inside.port c.self.inside.tables_port c.args.self.now c.self.view_is c.requires.bag) c.release.ensures.views c.args.buf c.release.result c.release.ensures.answers (port-may c.self.inside.port c.self.inside.tables_port c.args.self.now c.self.view_is _ c.requires)
    c.release.ensures.count c.release.ensures.buffers c.release.ensures.bag_refused)
