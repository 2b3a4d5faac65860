use Rattle.std.proofs.Common.{◌+◌, sym, subst}
use Rattle.list_messages.specs.Messages.{Named, IsKept}
use Rattle.list_messages.proofs.NamedNumbers.{kept_created}
use Rattle.list_messages.proofs.messages.ListMessages.create.Goals as goal

pub returns-clause-kept : goal.returns-clause-kept
returns-clause-kept c =
    let m = c.self.inside in
    rw (c.in_ok-push.ensures.items, c.new.ensures, c.in_ok-number.ensures)
    (kept_created m.sends.uses m.given m.pipes.items m.unsent.items m.created (subst (λ (t : Named). IsKept t) (sym c.self.view_is) c.requires) (m.created + 1) c.args.app c.args.depth c.args.name)
