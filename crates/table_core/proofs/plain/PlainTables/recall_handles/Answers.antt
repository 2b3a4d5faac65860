use Rattle.table_core.proofs.Standings.{rise_here, still_here}
use Rattle.table_core.proofs.plain.PlainTables.recall_handles.Goals as goal

pub returns-clause-rise : goal.returns-clause-rise
returns-clause-rise c = rise_here c.self.inside c.args.self.now c.self.view_is c.recall_ties.ensures

pub returns-clause-still : goal.returns-clause-still
returns-clause-still c = still_here c.self.inside c.args.self.now c.self.view_is c.self.invariant
