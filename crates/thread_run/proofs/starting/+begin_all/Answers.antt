use denote.Param.Send.{IsSync, sendable}
use Rattle.thread_run.proofs.Threads.{job_send}
use Rattle.thread_run.proofs.starting.+begin_all.Goals as goal

-- an application's job may go to its thread
pub start_one-start-requires-send-F : goal.start_one-start-requires-send-F
start_one-start-requires-send-F g t c κs within =
    let runtime : IsSync g.row.R = search sendable depth 10 in
    let gate : IsSync g.row.G = search sendable depth 10 in
    search (sendable, job_send) depth 20
