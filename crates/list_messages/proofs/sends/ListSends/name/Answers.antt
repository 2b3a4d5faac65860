use Rattle.std.proofs.Common.{◌≤◌, sym, subst}
use Rattle.list_messages.specs.Sends.{Sends, names_of}
use Rattle.list_messages.proofs.Account.{named_more}
use Rattle.list_messages.proofs.sends.ListSends.name.Goals as goal

pub invariant_of-self-2 : goal.invariant_of-self-2
invariant_of-self-2 c =
    let s = c.self.inside in
    rw c.in_ok-add_names.ensures.after
    (named_more s.uses.items s.used s.account c.args.number c.args.count c.self.invariant
    (subst (λ (t : Sends). 1 ≤ names_of t.uses c.args.number) (sym c.self.view_is) c.requires))
