use Rattle.bus_service.proofs.Looks.{looked_in_vain, looked, same_look}
use Rattle.bus_service.proofs.kind.LookAgainPortLookBusKindBusCore.look_laws.Goals as goal

pub returns-clause-in_vain : goal.returns-clause-in_vain
returns-clause-in_vain c = looked_in_vain

pub returns-clause-found : goal.returns-clause-found
returns-clause-found c = looked

pub returns-clause-same_call : goal.returns-clause-same_call
returns-clause-same_call c = same_look
