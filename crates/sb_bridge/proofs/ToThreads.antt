-- What the bridge takes along may go to its thread.
use denote.Ref.{NamedLft}
use denote.Param.Send.{IsSend, sendable}
use denote.Param.SendFields.{declared_send}
use Rattle.bus_service.proofs.Threads.{port_send}
use Rattle.tbl_service.proofs.ports.TblPort.TheSendSync as tables_port
use Rattle.thread_run.proofs.Threads.{parts_send}
use Rattle.sb_bridge.specs.contracts.bridge.BridgeJob as job
use Rattle.sb_bridge.specs.contracts.bridge.BridgePorts as ports
use Rattle.sb_bridge.specs.contracts.bridge.Crossing as crossing

ports_send : (r : NamedLft) → IsSend (ports.the_row r)
ports_send r = let p = port_send r in let t = tables_port.the_send r in search sendable depth 20

crossing_send : (e r : NamedLft) → IsSend (crossing.the_row e r)
crossing_send e r = declared_send (crossing.the_type e r) (parts_send e r, (parts_send e r, (search sendable depth 10, (search sendable depth 10, (search sendable depth 10, tt)))))

pub job_send : (e r : NamedLft) → IsSend (job.the_row e r)
job_send e r = declared_send (job.the_type e r) (crossing_send e r, (ports_send r, (ports_send r, tt)))
