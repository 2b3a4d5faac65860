use Rattle.bus_service.proofs.Refusals.{refused_unowned}
use Rattle.bus_service.proofs.receiving.ReceivePortCall.make.Goals as goal

pub returns-clause-left : goal.returns-clause-left
returns-clause-left g c = (
  c.receive.ensures.buffers,
  λ is. c.receive.ensures.bag_refused (refused_unowned _ _ _ _ _ is c.receive.ensures.does),
)
