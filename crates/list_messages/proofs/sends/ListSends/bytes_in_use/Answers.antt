use Rattle.std.proofs.Common.{ap, ◌∙◌}
use Rattle.fsw_base.specs.PoolAccounts.{Account}
use Rattle.bus_words.specs.Held.{bytes_in_use}
use Rattle.list_messages.specs.Sends.{Sends, account_by}
use Rattle.list_messages.proofs.Account.{out_all, account_is}
use Rattle.list_messages.proofs.sends.ListSends.bytes_in_use.Goals as goal

pub bytes_in_use-requires : goal.bytes_in_use-requires
bytes_in_use-requires c =
    let s = c.self.inside in
    record {
      made_all = c.self.invariant.made_all;
      out_all = out_all s.uses.items s.used s.account c.self.invariant;
      most = c.self.invariant.most;
      paid = c.self.invariant.paid;
    }

pub returns : goal.returns
returns c =
    let s = c.self.inside in
    c.bytes_in_use.ensures
    ∙ (ap (λ (a : Account). bytes_in_use a) (account_is s.uses.items s.used s.account c.self.invariant)
    ∙ ap (λ (t : Sends). bytes_in_use (account_by t)) c.self.view_is)
