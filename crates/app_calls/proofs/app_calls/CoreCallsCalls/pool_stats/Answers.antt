use Rattle.std.proofs.Common.{refl}
use Rattle.app_calls.proofs.CoreAnswers.{answers-kept}
use Rattle.app_calls.proofs.app_calls.CoreCallsCalls.pool_stats.Goals as goal

pub returns : goal.returns
returns g c = answers-kept _ _ _ _ c.requires.bag c.pool_stats.ensures.does c.pool_stats.ensures.bags (λ number. refl)
