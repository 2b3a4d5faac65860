-- The closure passes the subscriptions of the id.
use Rattle.std.proofs.Common.{rules, eqb}
use Rattle.std.proofs.lemmas.Fn.{filter_same}
use Rattle.list_pipes.proofs.subscriptions.leave_route.Goals as goal

pub returns : goal.returns
returns c = filter_same _ (λ sub. eqb sub.id c.args.id) _ (λ x b f' called. search rules) _ _ c.retain.ensures.filtered
