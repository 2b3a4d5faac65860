use Rattle.std.proofs.Common.{rules, eqb, not}
use Rattle.std.proofs.lemmas.Fn.{filter_same}
use Rattle.list_tables.proofs.handles.leave_others.Goals as goal

pub returns : goal.returns
returns c = filter_same _ (λ h. not (eqb h.app c.args.app)) _ (λ x b f' called. search rules) _ _ c.retain.ensures.filtered
