use Rattle.std.proofs.Common.{refl}
use Rattle.bus_service.proofs.PermitTests.{also_last}
use Rattle.bus_service.proofs.kind.may_end.Goals as goal

pub returns-then-any : goal.returns-then-any
returns-then-any c = (λ yes. also_last _ _ (c.requires c.if-any.true), λ may. refl)
