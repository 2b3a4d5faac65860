use Rattle.host_serve.specs.Serve.{made_through}
use Rattle.host_serve.proofs.Ends.{none-input}
use Rattle.host_serve.proofs.serving.script_of.Goals as goal

pub returns-in-None-clause-end : goal.returns-in-None-clause-end
returns-in-None-clause-end g c = λ how audit. none-input c.refusal.result how _ (made_through c.args.sink.now audit)
