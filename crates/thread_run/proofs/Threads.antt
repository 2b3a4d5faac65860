-- What an application takes along may go to its thread: both services may be shared, and its ports and its runner be moved.
use denote.Ref.{NamedLft}
use denote.Param.Send.{IsSend, IsSync, sendable}
use denote.Param.SendFields.{declared_send}
use Rattle.app_run.specs.contracts.runner.Runner as runner
use Rattle.app_run.proofs.runner.Runner.TheSendSync as its
use Rattle.app_script.specs.contracts.script.Script as script
use Rattle.app_script.proofs.script.Script.TheSendSync as lines
use Rattle.bus_service.proofs.Threads.{bus_sync, port_send}
use Rattle.tbl_service.proofs.Threads.{tables_sync}
use Rattle.tbl_service.proofs.ports.TblPort.TheSendSync as tables_port
use Rattle.thread_run.specs.contracts.works.Job as job
use Rattle.thread_run.specs.contracts.works.RunParts as parts
use Rattle.thread_run.specs.contracts.works.Work as work

script_sync : IsSync script.the_row
script_sync = lines.the_sync

runner_send : (s : NamedLft) → IsSend (runner.the_row s)
runner_send s = its.the_send s

pub parts_send : (e r : NamedLft) → IsSend (parts.the_row e r)
parts_send e r = let s = script_sync in let b = bus_sync r in let t = tables_sync r in search sendable depth 20

pub work_send : (s r : NamedLft) → IsSend (work.the_row s r)
work_send s r = let a = runner_send s in let p = port_send r in let t = tables_port.the_send r in search sendable depth 20

-- and so may the two in one value
pub job_send : (e r : NamedLft) → IsSend (job.the_row e r)
job_send e r = declared_send (job.the_type e r) (parts_send e r, (work_send e r, tt))
