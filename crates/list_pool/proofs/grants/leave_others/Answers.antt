-- The closure passes what isn't the application's.
use Rattle.std.proofs.Common.{rules, eqb, not}
use Rattle.std.proofs.lemmas.Fn.{filter_same}
use Rattle.list_pool.proofs.grants.leave_others.Goals as goal

pub returns : goal.returns
returns c = filter_same _ (λ grant. not (eqb grant.app c.args.app)) _ (λ x b f' called. search rules) _ _ c.retain.ensures.filtered
