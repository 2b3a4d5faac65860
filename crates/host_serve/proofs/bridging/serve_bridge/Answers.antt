use Rattle.std.proofs.Common.{ap}
use Rattle.host_serve.specs.Serve.{made_through}
use Rattle.host_serve.proofs.PlanEnds.{bridges-read}
use Rattle.host_serve.proofs.bridging.serve_bridge.Goals as goal

pub returns-in-Ok-clause-end : goal.returns-in-Ok-clause-end
returns-in-Ok-clause-end g c =
    bridges-read _ c.in-Ok.plan _ _ _ _ _ c.in-Ok.ensures.plan (ap (λ s. made_through s c.args.audit.now) c.in-Ok.ensures.none_written) c.serve_plan.ensures.end

pub returns-in-Err-clause-end : goal.returns-in-Err-clause-end
returns-in-Err-clause-end g c = c.in-Err.ensures.end c.args.audit.now
