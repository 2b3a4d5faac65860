use Rattle.std.proofs.Common.{rules, eqb, not}
use Rattle.std.proofs.lemmas.Fn.{filter_same}
use Rattle.script_calls.proofs.buffers.retain_others.Goals as goal

pub returns : goal.returns
returns c = filter_same _ (λ row. not (eqb row.number c.args.number)) _ (λ x b f' called. search rules) _ _ c.retain.ensures.filtered
