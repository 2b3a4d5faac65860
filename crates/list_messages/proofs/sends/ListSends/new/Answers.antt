use Rattle.list_messages.proofs.Account.{counted_new}
use Rattle.list_messages.proofs.sends.ListSends.new.Goals as goal

pub invariant_of-result : goal.invariant_of-result
invariant_of-result c = rw c.in_ok-uses.ensures (counted_new c.in_ok-account.account c.args.bytes c.args.sizes.now c.in_ok-account.ensures)
