-- The closure passes the subscriptions of other pipes.
use Rattle.std.proofs.Common.{rules, eqb, not}
use Rattle.std.proofs.lemmas.Fn.{filter_same}
use Rattle.list_pipes.proofs.subscriptions.leave_pipe.Goals as goal

pub returns-clause-others : goal.returns-clause-others
returns-clause-others c = filter_same _ (λ sub. not (eqb sub.pipe c.args.pipe)) _ (λ x b f' called. search rules) _ _ c.retain.ensures.filtered
