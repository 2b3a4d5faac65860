-- The closure passes what isn't the application's.
use Rattle.std.proofs.Common.{rules, eqb, not}
use Rattle.std.proofs.lemmas.Fn.{filter_same}
use Rattle.app_pools.proofs.pool.leave_others.Goals as goal

pub returns-clause-others : goal.returns-clause-others
returns-clause-others c = filter_same _ (λ grant. not (eqb grant.app c.args.app)) _ (λ x b f' called. search rules) _ _ c.retain.ensures.filtered
