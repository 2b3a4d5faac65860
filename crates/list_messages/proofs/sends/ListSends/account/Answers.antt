use Rattle.std.proofs.Common.{ap, ◌∙◌}
use Rattle.list_messages.specs.Sends.{Sends, account_by}
use Rattle.list_messages.proofs.Account.{account_is}
use Rattle.list_messages.proofs.sends.ListSends.account.Goals as goal

pub returns : goal.returns
returns c =
    let s = c.self.inside in
    account_is s.uses.items s.used s.account c.self.invariant ∙ ap (λ (t : Sends). account_by t) c.self.view_is
