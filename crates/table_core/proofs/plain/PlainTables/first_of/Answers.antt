use Rattle.table_core.proofs.Standings.{first_here}
use Rattle.table_core.proofs.plain.PlainTables.first_of.Goals as goal

pub returns : goal.returns
returns c = first_here c.self.inside c.args.self.now c.self.view_is c.args.app c.first_of.result c.first_of.ensures
