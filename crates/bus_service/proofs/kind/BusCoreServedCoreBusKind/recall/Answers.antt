use Rattle.bus_service.proofs.kind.BusCoreServedCoreBusKind.recall.Goals as goal

pub returns : goal.returns
returns c = record { legal = c.journal.ensures.legal; noted = c.journal.ensures.noted; alone = c.journal.ensures.alone; loans = c.journal.ensures.loans }
