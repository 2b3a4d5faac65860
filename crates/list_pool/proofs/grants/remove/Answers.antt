-- The closure passes the grants of other numbers.
use Rattle.std.proofs.Common.{rules, eqb, not}
use Rattle.std.proofs.lemmas.Fn.{filter_same}
use Rattle.list_pool.proofs.grants.remove.Goals as goal

pub returns : goal.returns
returns c = filter_same _ (λ grant. not (eqb grant.number c.args.number)) _ (λ x b f' called. search rules) _ _ c.retain.ensures.filtered
