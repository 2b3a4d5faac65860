use Rattle.std.proofs.Common.{refl}
use Rattle.app_calls.proofs.CoreAnswers.{answers-kept}
use Rattle.app_calls.proofs.app_calls.CoreCallsCalls.evs_register.Goals as goal

pub returns : goal.returns
returns g c = answers-kept _ _ _ _ c.requires.bag c.evs_register.ensures.does c.evs_register.ensures.bags (λ number. refl)
