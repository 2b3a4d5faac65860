use Rattle.tbl_service.proofs.kind.TblCoreServedCoreTblKind.recall.Goals as goal

pub returns : goal.returns
returns c = record { legal = c.journal.ensures.legal; noted = c.journal.ensures.noted; loans = c.journal.ensures.loans }
