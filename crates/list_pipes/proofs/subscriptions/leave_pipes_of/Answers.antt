-- The closure passes the subscriptions of pipes that aren't the application's.
use Rattle.std.proofs.Common.{rules, not}
use Rattle.std.proofs.lemmas.Fn.{filter_same}
use Rattle.bus_words.specs.Pipes.{owns}
use Rattle.list_pipes.proofs.subscriptions.leave_pipes_of.Goals as goal

pub returns-clause-others : goal.returns-clause-others
returns-clause-others c = filter_same _ (λ sub. not (owns c.args.pipes.now c.args.app sub.pipe)) _ (λ x b f' called. search rules) _ _ c.retain.ensures.filtered
