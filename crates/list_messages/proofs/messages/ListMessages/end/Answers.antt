use Rattle.std.proofs.Common.{sym, subst}
use Rattle.list_messages.specs.Messages.{Named, IsKept}
use Rattle.list_messages.proofs.NamedNumbers.{kept_owned, kept_all_left}
use Rattle.list_messages.proofs.messages.ListMessages.end.Goals as goal

pub returns-clause-kept : goal.returns-clause-kept
returns-clause-kept c =
    let m = c.self.inside in
    let holds = subst (λ (t : Named). IsKept t) (sym c.self.view_is) c.requires in
    rw (c.drop_names-2.ensures, c.drop_names.ensures, c.leave_others.ensures, c.deref-3.ensures.value, c.in_ok-unsent.ensures.after, c.in_ok-unsent.ensures.gone, c.deref-2.ensures.value, c.in_ok-own.ensures, c.deref.ensures.value)
    (kept_all_left _ m.given _ m.unsent.items m.created (kept_owned m.sends.uses m.given m.pipes.items m.unsent.items m.created holds c.args.app) c.args.app)
