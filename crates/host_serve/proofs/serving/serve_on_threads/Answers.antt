use Rattle.std.proofs.Common.{ap}
use Rattle.host_serve.specs.Serve.{OnThreads, made_through}
use Rattle.host_serve.proofs.Ends.{runs-read}
use Rattle.host_serve.proofs.serving.serve_on_threads.Goals as goal

pub returns-in-Ok-clause-end : goal.returns-in-Ok-clause-end
returns-in-Ok-clause-end g c =
    runs-read OnThreads _ c.in-Ok.script _ _ _ _ _ c.in-Ok.ensures.script (ap (λ s. made_through s c.args.audit.now) c.in-Ok.ensures.none_written) c.serve_script_on_threads.ensures.end

pub returns-in-Err-clause-end : goal.returns-in-Err-clause-end
returns-in-Err-clause-end g c = c.in-Err.ensures.end OnThreads c.args.audit.now
