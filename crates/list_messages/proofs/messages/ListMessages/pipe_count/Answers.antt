use Rattle.std.proofs.Common.{◌≤◌, length, sym, subst, arith}
use Rattle.list_messages.specs.Messages.{Named, IsKept}
use Rattle.list_messages.proofs.messages.ListMessages.pipe_count.Goals as goal

pub overflow_cast-result : goal.overflow_cast-result
overflow_cast-result c =
    let holds = subst (λ (t : Named). IsKept t) (sym c.self.view_is) c.requires in
    let few : length c.self.inside.pipes.items ≤ c.self.inside.created = holds.few in
    omega (arith, few)
