use Rattle.list_tables.proofs.machine.ListTables.change.Goals as goal

pub returns-in-Stage : goal.returns-in-Stage
returns-in-Stage c = rw c.in-Stage.is c.stage.ensures
