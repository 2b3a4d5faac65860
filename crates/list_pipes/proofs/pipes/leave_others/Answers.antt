-- The closure passes what isn't to leave.
use Rattle.std.proofs.Common.{rules, eqb, not}
use Rattle.std.proofs.lemmas.Fn.{filter_same}
use Rattle.list_pipes.proofs.pipes.leave_others.Goals as goal

pub returns : goal.returns
returns c = filter_same _ (λ pipe. not (eqb pipe.owner c.args.app)) _ (λ x b f' called. search rules) _ _ c.retain.ensures.filtered
