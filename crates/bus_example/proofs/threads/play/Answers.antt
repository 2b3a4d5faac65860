use denote.Ref.{NamedLft}
use denote.Param.Send.{IsSend, IsSync, sendable, shr_send}
use denote.Param.SendFields.{declared_send}
use Rattle.std.proofs.Crossing.{crosses}
use Rattle.bus_service.proofs.Threads.{bus_sync, port_send}
use Rattle.bus_example.specs.contracts.threads.App as app
use Rattle.bus_example.proofs.threads.play.Goals as goal

-- an application may go to its thread
app_send : (e r : NamedLft) → IsSend (app.the_row e r)
app_send e r = declared_send (app.the_type e r) (shr_send _ _ _ (bus_sync r), (search (sendable, crosses) depth 10, (port_send r, tt)))

pub join-left-requires-send-F : goal.join-left-requires-send-F
join-left-requires-send-F g c κs within =
    let runtime : IsSync g.row.R = search sendable depth 10 in
    search (sendable, app_send) depth 20
