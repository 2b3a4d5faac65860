use Rattle.host_serve.proofs.Served.{served}
use Rattle.host_serve.proofs.serving.serve_alone.Goals as goal

pub returns : goal.returns
returns g c = served _ _ _ _ c.serve_guarded_alone.ensures
