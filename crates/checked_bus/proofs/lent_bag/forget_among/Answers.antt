-- The closure passes the seats of other numbers.
use Rattle.std.proofs.Common.{rules, eqb, not}
use Rattle.std.proofs.lemmas.Fn.{filter_same}
use Rattle.checked_bus.proofs.lent_bag.forget_among.Goals as goal

pub returns-clause-items : goal.returns-clause-items
returns-clause-items c = filter_same _ (λ seat. not (eqb seat.number c.args.number)) _ (λ x b f' called. search rules) _ _ c.retain.ensures.filtered
