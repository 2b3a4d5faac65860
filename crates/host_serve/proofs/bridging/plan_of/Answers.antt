use Rattle.host_serve.specs.Serve.{made_through}
use Rattle.host_serve.proofs.PlanEnds.{none-plan}
use Rattle.host_serve.proofs.bridging.plan_of.Goals as goal

pub returns-in-None-clause-end : goal.returns-in-None-clause-end
returns-in-None-clause-end g c = λ audit. none-plan c.refusal.result _ (made_through c.args.sink.now audit)
