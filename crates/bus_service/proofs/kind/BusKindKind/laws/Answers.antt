use Rattle.bus_service.proofs.Laws.{bus_laws}
use Rattle.bus_service.proofs.kind.BusKindKind.laws.Goals as goal

pub returns : goal.returns
returns c = bus_laws
