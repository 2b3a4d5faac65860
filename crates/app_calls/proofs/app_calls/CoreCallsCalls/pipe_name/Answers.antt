use Rattle.std.proofs.Common.{refl}
use Rattle.app_calls.proofs.CoreAnswers.{answers-kept}
use Rattle.app_calls.proofs.app_calls.CoreCallsCalls.pipe_name.Goals as goal

pub returns : goal.returns
returns g c = answers-kept _ _ _ _ c.requires.bag c.pipe_name.ensures.does c.pipe_name.ensures.bags (λ number. refl)
