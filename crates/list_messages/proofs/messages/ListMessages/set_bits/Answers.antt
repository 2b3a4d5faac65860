use Rattle.std.proofs.Common.{sym, subst}
use Rattle.list_messages.specs.Messages.{Named, IsKept}
use Rattle.list_messages.proofs.NamedNumbers.{kept_bits}
use Rattle.list_messages.proofs.messages.ListMessages.set_bits.Goals as goal

pub returns-clause-kept : goal.returns-clause-kept
returns-clause-kept c =
    let m = c.self.inside in
    rw (c.set_bits_of.ensures)
    (kept_bits m.sends.uses m.given m.pipes.items m.unsent.items m.created (subst (λ (t : Named). IsKept t) (sym c.self.view_is) c.requires) c.args.pipe c.args.bits)
