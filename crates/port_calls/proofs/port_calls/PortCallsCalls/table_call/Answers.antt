use Rattle.port_calls.proofs.PortAnswers.{tables-may, tables-answers, tables-answered}
use Rattle.port_calls.proofs.port_calls.PortCallsCalls.table_call.Goals as goal

pub make-requires-clause-may : goal.make-requires-clause-may
make-requires-clause-may g c = tables-may c.self.inside.port c.self.inside.tables_port c.self.invariant.app c.args.self.now c.self.view_is _ c.requires

pub invariant_of-self : goal.invariant_of-self
invariant_of-self g c = tables-answered _ _ _ _ _ _ c.self.invariant c.make.new.port c.make.ensures.lock c.make.ensures.app

pub returns : goal.returns
returns g c = tables-answers c.self.inside.port c.self.inside.tables_port c.self.invariant.app c.args.self.now c.self.view_is c.make.new.port _ _ c.make.ensures
