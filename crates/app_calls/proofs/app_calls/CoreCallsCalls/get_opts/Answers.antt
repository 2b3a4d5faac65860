use Rattle.std.proofs.Common.{refl}
use Rattle.app_calls.proofs.CoreAnswers.{answers-kept}
use Rattle.app_calls.proofs.app_calls.CoreCallsCalls.get_opts.Goals as goal

pub returns : goal.returns
returns g c = answers-kept _ _ _ _ c.requires.bag c.get_opts.ensures.does c.get_opts.ensures.bags (λ number. refl)
