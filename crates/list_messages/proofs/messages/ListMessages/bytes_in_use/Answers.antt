use Rattle.std.proofs.Common.{refl, sym, subst, ap, ◌∙◌}
use Rattle.list_messages.specs.Messages.{Named, IsKept, account_in}
use Rattle.list_messages.specs.Inside.{named_in}
use Rattle.list_messages.proofs.NamedNumbers.{kept_account}
use Rattle.fsw_base.specs.PoolAccounts.{Account}
use Rattle.bus_words.specs.Held.{bytes_in_use}
use Rattle.list_messages.proofs.messages.ListMessages.bytes_in_use.Goals as goal

pub returns : goal.returns
returns c =
    let m = c.self.inside in
    let holds = subst (λ (t : Named). IsKept t) (sym c.self.view_is) c.requires in
    c.bytes_in_use.ensures
    ∙ (ap (λ (a : Account). bytes_in_use a) (kept_account m.sends.uses m.given m.pipes.items m.unsent.items m.created holds m.sends (named_in m).part refl refl)
    ∙ ap (λ (t : Named). bytes_in_use (account_in t.part)) c.self.view_is)
