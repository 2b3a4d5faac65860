use Rattle.tbl_service.proofs.tables.Tables.join.Goals as goal

pub returns-clause-seen : goal.returns-clause-seen
returns-clause-seen c = c.join.ensures.seen
