use Rattle.std.proofs.Common.{ap, ◌∙◌}
use Rattle.fsw_base.specs.PoolAccounts.{Account, has_room}
use Rattle.list_messages.specs.Sends.{Sends, account_by}
use Rattle.list_messages.proofs.Account.{account_is}
use Rattle.list_messages.proofs.sends.ListSends.has_room.Goals as goal

pub returns : goal.returns
returns c =
    let s = c.self.inside in
    c.has_room.ensures
    ∙ (ap (λ (a : Account). has_room a c.args.size) (account_is s.uses.items s.used s.account c.self.invariant)
    ∙ ap (λ (t : Sends). has_room (account_by t) c.args.size) c.self.view_is)
