use Rattle.std.proofs.Common.{refl}
use Rattle.app_calls.proofs.CoreAnswers.{answers-kept}
use Rattle.app_calls.proofs.app_calls.CoreCallsCalls.set_log_mode.Goals as goal

pub returns : goal.returns
returns g c = answers-kept _ _ _ _ c.requires.bag c.set_log_mode.ensures.does c.set_log_mode.ensures.bags (λ number. refl)
