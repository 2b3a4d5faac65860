use Rattle.bus_service.proofs.bus.Bus.join.Goals as goal

pub returns-clause-seen : goal.returns-clause-seen
returns-clause-seen c = c.join.ensures.seen
