-- The closure passes the buffers of other numbers.
use Rattle.std.proofs.Common.{rules, eqb, not}
use Rattle.std.proofs.lemmas.Fn.{filter_same}
use Rattle.list_messages.proofs.buffers.leave_others.Goals as goal

pub returns : goal.returns
returns c = filter_same _ (λ buffer. not (eqb buffer.number c.args.number)) _ (λ x b f' called. search rules) _ _ c.retain.ensures.filtered
