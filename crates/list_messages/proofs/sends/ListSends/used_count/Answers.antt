use Rattle.std.proofs.Common.{ap, ◌∙◌}
use Rattle.std.specs.List.{count_by}
use Rattle.list_messages.specs.Sends.{Sends, is_used}
use Rattle.list_messages.proofs.sends.ListSends.used_count.Goals as goal

pub returns : goal.returns
returns c = c.self.invariant.used_is ∙ ap (λ (s : Sends). count_by is_used s.uses) c.self.view_is
