-- The closure passes what isn't to leave.
use Rattle.std.proofs.Common.{rules, eqb, not}
use Rattle.std.proofs.lemmas.Fn.{filter_same}
use Rattle.bus_words.specs.Bus.{Pipe}
use Rattle.list_pipes.proofs.pipes.leave_pipe.Goals as goal

pub returns : goal.returns
returns c = filter_same _ (λ (pipe : Pipe). not (eqb pipe.number c.args.number)) _ (λ x b f' called. search rules) _ _ c.retain.ensures.filtered
