use Rattle.std.proofs.Common.{refl, sym, subst, ap, ◌∙◌}
use Rattle.list_messages.specs.Messages.{Named, IsKept, account_in}
use Rattle.list_messages.specs.Inside.{named_in}
use Rattle.list_messages.proofs.NamedNumbers.{kept_account}
use Rattle.fsw_base.specs.PoolAccounts.{Account, has_room}
use Rattle.list_messages.proofs.messages.ListMessages.has_room.Goals as goal

pub returns : goal.returns
returns c =
    let m = c.self.inside in
    let holds = subst (λ (t : Named). IsKept t) (sym c.self.view_is) c.requires in
    c.has_room.ensures
    ∙ (ap (λ (a : Account). has_room a c.args.size) (kept_account m.sends.uses m.given m.pipes.items m.unsent.items m.created holds m.sends (named_in m).part refl refl)
    ∙ ap (λ (t : Named). has_room (account_in t.part) c.args.size) c.self.view_is)
