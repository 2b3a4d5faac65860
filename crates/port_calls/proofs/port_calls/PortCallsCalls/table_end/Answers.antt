use Rattle.port_calls.proofs.PortAnswers.{tables-may, tables-answers, tables-answered}
use Rattle.port_calls.proofs.port_calls.PortCallsCalls.table_end.Goals as goal

pub end-requires-clause-may : goal.end-requires-clause-may
end-requires-clause-may g c = tables-may c.self.inside.port c.self.inside.tables_port c.self.invariant.app c.args.self.now c.self.view_is _ c.requires

pub invariant_of-self : goal.invariant_of-self
invariant_of-self g c = tables-answered _ _ _ _ _ _ c.self.invariant c.end.new.self c.end.ensures.answers.lock c.end.ensures.answers.app

pub returns : goal.returns
returns g c = tables-answers c.self.inside.port c.self.inside.tables_port c.self.invariant.app c.args.self.now c.self.view_is c.end.new.self _ _ c.end.ensures.answers
